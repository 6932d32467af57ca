-- The line of a header is its words one after the other.
use Rattle.std.proofs.Common.{◌≡◌, ◌<◌, ◌≤◌, ◌+◌, ◌^◌, ℕ, List, [], ◌∷◌, ◌++◌, length, inl, inr, refl, ap, append_assoc, length-append, arith, rules}
use Rattle.std.specs.Prelude.{codes}
use Rattle.std.specs.List.{AllByRecursion}
use Rattle.std.specs.Fmt.{decimal}
use Rattle.std.proofs.lemmas.Bool.{cases_eq, ne_eqb}
use Rattle.std.proofs.lemmas.Fmt.{length-decimal-le}
use Rattle.texts.proofs.CutLemmas.{Lacks, Lacks-append}
use Rattle.envelope.specs.Headers.{HasLine, Head, NumbersFit, head_then, level_words, sender_words}
use Rattle.envelope.specs.Names.{IsName}
use Rattle.envelope.specs.declared.header.Sender.{Sender}
use Rattle.envelope.specs.declared.header.Sender.TheVariants.{Client, Voter, Operator}
use Rattle.envelope.proofs.NameLemmas.{name_lacks_newline}
use Rattle.line_words.specs.Lines.{spaced}
use Rattle.line_words.proofs.SpacedLemmas.{Lacks-spaced, number_lacks, spaced_then}

chain : (q a b s l n : List ℕ) → ((((([] ++ q) ++ a) ++ b) ++ s) ++ l) ++ n ≡ q ++ (a ++ (b ++ (s ++ (l ++ n))))
chain q a b s l n = simp append_assoc refl

pub built : (a b c d e f g start cluster coterie : List ℕ) (sender level : List (List ℕ)) → a ≡ [] → b ≡ a ++ start → c ≡ b ++ (32 ∷ cluster)
    → d ≡ c ++ (32 ∷ coterie) → e ≡ d ++ spaced sender [] → f ≡ e ++ spaced level [] → g ≡ f ++ 10 ∷ []
    → g ≡ start ++ spaced (cluster ∷ coterie ∷ []) (spaced sender (spaced level (10 ∷ [])))
built a b c d e f g start cluster coterie sender level ha hb hc hd he hf hg =
    rw (hg, hf, he, hd, hc, hb, ha, spaced_then sender (spaced level (10 ∷ [])), spaced_then level (10 ∷ []))
    (chain start (32 ∷ cluster) (32 ∷ coterie) (spaced sender []) (spaced level []) (10 ∷ []))

-- the header's words, and what is behind them
pub head_then_rest : (h : Head) (rest : List ℕ) → head_then h rest ≡ head_then h [] ++ rest
head_then_rest h rest =
    rw (
      spaced_then (level_words h.level) rest,
      spaced_then (sender_words h.sender h.name) (spaced (level_words h.level) [] ++ rest),
      spaced_then (sender_words h.sender h.name) (spaced (level_words h.level) []),
    )
    (pieces (codes "qlock2") (32 ∷ h.cluster) (32 ∷ h.coterie) (spaced (sender_words h.sender h.name) []) (spaced (level_words h.level) []) rest)
  where
    pieces : (q a b s l n : List ℕ) → q ++ (a ++ (b ++ (s ++ (l ++ n)))) ≡ (q ++ (a ++ (b ++ (s ++ l)))) ++ n
    pieces q a b s l n = simp append_assoc refl

sender_lacks : (s : Sender) (name : List ℕ) → NumbersFit s → IsName name → AllByRecursion (Lacks 10) (sender_words s name)
sender_lacks (Client n a b d) name h named =
    ((refl, tt), (number_lacks n (omega (arith, h.0)), (number_lacks a h.1, (number_lacks b h.2, (name_lacks_newline name named, (number_lacks d h.3, tt))))))
sender_lacks (Voter n a b d) name h named =
    ((refl, tt), (number_lacks n (omega (arith, h.0)), (number_lacks a h.1, (number_lacks b h.2, (name_lacks_newline name named, (number_lacks d h.3, tt))))))
sender_lacks Operator name h named = ((refl, tt), (name_lacks_newline name named, tt))

level_lacks : (n : ℕ) → n < 2 ^ 64 → AllByRecursion (Lacks 10) (level_words n)
level_lacks n small =
    elim (cases_eq n 0) [
      | inl z ↦ rw z tt
      | inr nz ↦ rw (ne_eqb n 0 nz) (Lacks-append 10 (codes "level=") (decimal n) (search rules) (number_lacks n small), tt)
    ]

pub head_lacks : (h : Head) → HasLine h → Lacks 10 (head_then h [])
head_lacks h fits =
    let last = Lacks-spaced (level_words h.level) [] (level_lacks h.level fits.level) tt in
    let tail = Lacks-spaced (sender_words h.sender h.name) (spaced (level_words h.level) []) (sender_lacks h.sender h.name fits.numbers fits.name) last in
    Lacks-append 10 (codes "qlock2") (spaced (h.cluster ∷ h.coterie ∷ []) (spaced (sender_words h.sender h.name) (spaced (level_words h.level) []))) (search rules)
    (Lacks-spaced (h.cluster ∷ h.coterie ∷ []) (spaced (sender_words h.sender h.name) (spaced (level_words h.level) []))
    (name_lacks_newline h.cluster fits.cluster, (name_lacks_newline h.coterie fits.coterie, tt)) tail)

-- How long a header is

number_short : (n : ℕ) → n < 2 ^ 64 → length (decimal n) ≤ 20
number_short n fits = length-decimal-le 20 n (omega arith) (omega arith) fits

id_short : (n : ℕ) → n ≤ 63 → length (decimal n) ≤ 2
id_short n few = length-decimal-le 2 n (omega arith) (omega arith) (omega arith)

one_more : (w rest : List ℕ) → length ((32 ∷ w) ++ rest) ≡ 1 + length w + length rest
one_more w rest = let e = length-append (32 ∷ w) rest in omega (arith, e)

numbers_short : (n a b d : ℕ) (name rest : List ℕ) → n ≤ 63 → a < 2 ^ 64 → b < 2 ^ 64 → d < 2 ^ 64 → length name ≤ 64
    → length (spaced (decimal n ∷ decimal a ∷ decimal b ∷ name ∷ decimal d ∷ []) rest) ≤ 131 + length rest
numbers_short n a b d name rest hn ha hb hd hw =
    let e0 = one_more (decimal n) (spaced (decimal a ∷ decimal b ∷ name ∷ decimal d ∷ []) rest) in
    let e1 = one_more (decimal a) (spaced (decimal b ∷ name ∷ decimal d ∷ []) rest) in
    let e2 = one_more (decimal b) (spaced (name ∷ decimal d ∷ []) rest) in
    let e3 = one_more name (spaced (decimal d ∷ []) rest) in
    let e4 = one_more (decimal d) rest in
    omega (arith, e0, e1, e2, e3, e4, id_short n hn, number_short a ha, number_short b hb, number_short d hd)

sender_short : (s : Sender) (name rest : List ℕ) → NumbersFit s → length name ≤ 64 → length (spaced (sender_words s name) rest) ≤ 133 + length rest
sender_short (Client n a b d) name rest h short = let k = numbers_short n a b d name rest h.0 h.1 h.2 h.3 short in omega (arith, k)
sender_short (Voter n a b d) name rest h short = let k = numbers_short n a b d name rest h.0 h.1 h.2 h.3 short in omega (arith, k)
sender_short Operator name rest h short = let k = one_more name rest in omega (arith, k)

level_short : (n : ℕ) (rest : List ℕ) → n < 2 ^ 64 → length (spaced (level_words n) rest) ≤ 27 + length rest
level_short n rest small =
    elim (cases_eq n 0) [
      | inl z ↦ rw z (omega arith)
      | inr nz ↦ rw (ne_eqb n 0 nz) (let k = one_more (codes "level=" ++ decimal n) rest in let d = number_short n small in omega (arith, k, d))
    ]

pub head_short : (h : Head) (rest : List ℕ) → HasLine h → length (head_then h rest) ≤ 296 + length rest
head_short h rest fits =
    let last = spaced (level_words h.level) rest in
    let tail = spaced (sender_words h.sender h.name) last in
    let a = one_more h.cluster (spaced (h.coterie ∷ []) tail) in
    let b = one_more h.coterie tail in
    let c = sender_short h.sender h.name last fits.numbers fits.name.short in
    let d = level_short h.level rest fits.level in
    omega (arith, a, b, c, d, fits.cluster.short, fits.coterie.short)
