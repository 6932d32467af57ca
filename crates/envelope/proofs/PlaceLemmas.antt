-- Where the names of a header are.
use Rattle.std.proofs.Common.{◌≡◌, ◌+◌, ◌-◌, ℕ, List, [], ◌∷◌, ◌++◌, length, take, drop, refl, sym, ap, ◌∙◌, append_assoc, length-append, arith}
use Rattle.std.specs.Prelude.{codes}
use Rattle.std.specs.Fmt.{decimal}
use Rattle.std.proofs.lemmas.List.{take_at, drop_at}
use Rattle.texts.proofs.CutLemmas.{cut_at-Some}
use Rattle.envelope.specs.Headers.{ArePlaces, Head, IsMessage, head_then, level_words, name_at, part, sender_words, words_before_name}
use Rattle.envelope.specs.declared.header.Sender.{Sender}
use Rattle.envelope.specs.declared.header.Sender.TheVariants.{Client, Voter, Operator}
use Rattle.line_words.specs.Lines.{spaced}
use Rattle.line_words.proofs.SpacedLemmas.{spaced_then}

-- what is behind a front is at its end
part_behind : (text front name back : List ℕ) (n : ℕ) → text ≡ front ++ (name ++ back) → length front ≡ n → part n (length name) text ≡ name
part_behind text front name back n e len =
    ap (λ (t : List ℕ). take (length name) (drop n t)) e ∙ ap (λ (t : List ℕ). take (length name) t) (drop_at front (name ++ back) n len)
    ∙ take_at name back (length name) refl

-- the words of a sender are those in front of the name, the name, and one more
behind_name : Sender → List ℕ → List ℕ
behind_name (Client n a b d) rest = spaced (decimal d ∷ []) rest
behind_name (Voter n a b d) rest = spaced (decimal d ∷ []) rest
behind_name Operator rest = rest

spaced_front : (words : List (List ℕ)) (rest : List ℕ) → spaced words (32 ∷ rest) ≡ spaced words (32 ∷ []) ++ rest
spaced_front words rest =
    let long = spaced_then words (32 ∷ rest) in
    let short = spaced_then words (32 ∷ []) in
    rw (long, short) (sym (append_assoc (spaced words []) (32 ∷ []) rest))

around_name : (s : Sender) (name rest : List ℕ) → spaced (sender_words s name) rest ≡ spaced (words_before_name s) (32 ∷ []) ++ (name ++ behind_name s rest)
unfolding behind_name
around_name (Client n a b d) name rest = spaced_front (codes "c" ∷ decimal n ∷ decimal a ∷ decimal b ∷ []) (name ++ spaced (decimal d ∷ []) rest)
around_name (Voter n a b d) name rest = spaced_front (codes "v" ∷ decimal n ∷ decimal a ∷ decimal b ∷ []) (name ++ spaced (decimal d ∷ []) rest)
around_name Operator name rest = refl

two : (a b c d : List ℕ) → (a ++ (b ++ c)) ++ d ≡ a ++ (b ++ (c ++ d))
two a b c d = simp append_assoc refl

four : (a b c d e f : List ℕ) → (a ++ (b ++ (c ++ (d ++ e)))) ++ f ≡ (a ++ (b ++ c)) ++ (d ++ (e ++ f))
four a b c d e f = simp append_assoc refl

six : (a b c d e f g : List ℕ) → (a ++ (b ++ (c ++ (d ++ (e ++ f))))) ++ g ≡ (a ++ (b ++ (c ++ d))) ++ (e ++ (f ++ g))
six a b c d e f g = simp append_assoc refl

pub places : (text : List ℕ) (h : Head) (ignored lines : List ℕ) → IsMessage text h ignored lines → ArePlaces text h lines
places text h ignored lines m =
    let e = cut_at-Some 10 text (head_then h ignored, lines) m.first_line in
    let last = spaced (level_words h.level) ignored in
    let tail = spaced (sender_words h.sender h.name) last in
    let ending : List ℕ = 10 ∷ lines in
    let front = head_then h ignored ++ 10 ∷ [] in
    let whole : text ≡ front ++ lines = e ∙ sym (append_assoc (head_then h ignored) (10 ∷ []) lines) in
    let len : length text ≡ length front + length lines = ap length whole ∙ length-append front lines in
    record {
      cluster = part_behind text (codes "qlock2 ") h.cluster (spaced (h.coterie ∷ []) tail ++ ending) 7
          (e ∙ two (codes "qlock2 ") h.cluster (spaced (h.coterie ∷ []) tail) ending) refl;
      coterie = part_behind text (codes "qlock2 " ++ (h.cluster ++ 32 ∷ [])) h.coterie (tail ++ ending) (8 + length h.cluster)
          (e ∙ four (codes "qlock2 ") h.cluster (32 ∷ []) h.coterie tail ending) (let l = length-append h.cluster (32 ∷ []) in omega (arith, l));
      name = part_behind text (codes "qlock2" ++ spaced (h.cluster ∷ h.coterie ∷ words_before_name h.sender) (32 ∷ [])) h.name
          (behind_name h.sender last ++ ending) (name_at h)
          (e ∙ ap (λ (t : List ℕ). (codes "qlock2" ++ spaced (h.cluster ∷ h.coterie ∷ []) t) ++ ending) (around_name h.sender h.name last)
          ∙ six (codes "qlock2") (32 ∷ h.cluster) (32 ∷ h.coterie) (spaced (words_before_name h.sender) (32 ∷ [])) h.name (behind_name h.sender last) ending) refl;
      lines_fit = omega (arith, len);
      lines_are = ap (drop (length text - length lines)) whole ∙ drop_at front lines (length text - length lines) (omega (arith, len));
    }
