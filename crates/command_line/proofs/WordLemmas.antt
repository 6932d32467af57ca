-- Lemmas on the sizes of a shape, and on what words name.
use Rattle.std.proofs.Common.{◌≡◌, ℕ, ◌+◌, ◌<◌, ◌≤◌, List, [], ◌∷◌, ◌++◌, length, get_or, take, zero, suc, ap₂, refl, sym, subst, ◌∙◌, arith, rules, codes, Some}
use Rattle.std.proofs.lemmas.Option.{same_Some}
use Rattle.numbers.specs.Bounds.{max_dealt}
use Rattle.clap.specs.Words.{Row, Text, fault_of, first_of, subcommand_of}
use Rattle.command_line.specs.Words.{AreSizes, HasNumber, IsNamedBy, IsNumber, IsShapeOf, NamesNone, Refuses, RefusesByClap, RefusesUse, qlock_app, size_texts}
use Rattle.command_line.specs.declared.command.Command.TheVariants.{Deal, Make, Run}
use Rattle.command_line.specs.declared.command.Shape.{Shape}
use Rattle.command_line.specs.declared.usage.Usage.{Usage}
use Rattle.command_line.specs.declared.usage.Usage.TheVariants.{Arguments, OutOfMemory, Refused}

-- one size more
are_more : (texts : List Text) (sizes : List ℕ) (i n : ℕ) → i < length texts → AreSizes (take i texts) sizes → IsNumber (get_or texts i []) n → n ≤ 9999
    → AreSizes (take (suc i) texts) (sizes ++ n ∷ [])
are_more [] sizes i n lt so_far number small = absurd (omega arith)
are_more (text ∷ texts) [] zero n lt so_far number small = (number, small, tt)
are_more (text ∷ texts) (m ∷ sizes) zero n lt so_far number small = absurd so_far
are_more (text ∷ texts) [] (suc i) n lt so_far number small = absurd so_far
are_more (text ∷ texts) (m ∷ sizes) (suc i) n lt so_far number small = (so_far.0, so_far.1, are_more texts sizes i n (omega arith) so_far.2 number small)

pub AreSizes-more : (texts : List Text) (sizes after : List ℕ) (i n : ℕ) → i < length texts → AreSizes (take i texts) sizes → IsNumber (get_or texts i []) n → n ≤ 9999 → after ≡ sizes ++ n ∷ []
    → AreSizes (take (i + 1) texts) after
AreSizes-more texts sizes after i n lt so_far number small e =
    let next : suc i ≡ i + 1 = omega arith in
    rw e (subst (λ (j : ℕ). AreSizes (take j texts) (sizes ++ n ∷ [])) next (are_more texts sizes i n lt so_far number small))

-- texts have sizes in one way
pub same_sizes : (texts : List Text) (a b : List ℕ) → AreSizes texts a → AreSizes texts b → a ≡ b
same_sizes [] [] [] h k = refl
same_sizes [] [] (n ∷ b) h k = absurd k
same_sizes [] (m ∷ a) b h k = absurd h
same_sizes (text ∷ texts) [] b h k = absurd h
same_sizes (text ∷ texts) (m ∷ a) [] h k = absurd k
same_sizes (text ∷ texts) (m ∷ a) (n ∷ b) h k = ap₂ (λ (x : ℕ) (xs : List ℕ). x ∷ xs) (h.0.1 ∙ sym k.0.1) (same_sizes texts a b h.2 k.2)

-- each of the texts has a size
pub AreSizes-at : (texts : List Text) (sizes : List ℕ) (i : ℕ) → i < length texts → AreSizes texts sizes → (n : ℕ) × IsNumber (get_or texts i []) n × (n ≤ 9999)
AreSizes-at [] sizes i lt h = absurd (omega arith)
AreSizes-at (text ∷ texts) [] i lt h = absurd h
AreSizes-at (text ∷ texts) (n ∷ sizes) zero lt h = (n, h.0, h.1)
AreSizes-at (text ∷ texts) (n ∷ sizes) (suc i) lt h = AreSizes-at texts sizes i (omega arith) h.2

-- where there is no shape of that name and those sizes, `make` names nothing
pub NamesNone-no_shape_of : (rows : List Row) (name : Text) (sizes : List ℕ) → first_of (codes "SHAPE") rows ≡ Some name → AreSizes (size_texts (codes "NUMBERS") rows) sizes
    → ((shape : Shape) → IsShapeOf name sizes shape → ⊥) → NamesNone (Some (codes "make", rows))
NamesNone-no_shape_of rows name sizes given are none (Make shape) named =
    let name_is : named.1.0 ≡ name = same_Some named.1.0 name (sym named.1.1 ∙ given) in
    let sizes_are : named.1.2.0 ≡ sizes = same_sizes (size_texts (codes "NUMBERS") rows) named.1.2.0 sizes named.1.2.1 are in
    none shape (subst (λ (t : List ℕ). IsShapeOf t sizes shape) name_is (subst (λ (ns : List ℕ). IsShapeOf named.1.0 ns shape) sizes_are named.1.2.2))
NamesNone-no_shape_of rows name sizes given are none command named = search rules

-- where `deal` was used with no number in range, it names nothing
pub NamesNone-deal : (rows : List Row) → ((n : ℕ) → HasNumber (codes "N") 0 max_dealt rows n → ⊥) → NamesNone (Some (codes "deal", rows))
NamesNone-deal rows none (Deal n) named = none n named.1
NamesNone-deal rows none command named = search rules

-- nor does `run`, where one of its numbers is missing or out of range
pub NamesNone-run : (rows : List Row) → ((clients passes turns : ℕ) → IsNamedBy (Some (codes "run", rows)) (Run clients passes turns) → ⊥) → NamesNone (Some (codes "run", rows))
NamesNone-run rows none (Run clients passes turns) named = none clients passes turns named
NamesNone-run rows none command named = search rules

-- a refusal of what the words name
pub Refuses-use : (words : List Text) (usage : Usage) → fault_of qlock_app words ≡ [] → RefusesUse (subcommand_of qlock_app words) usage → Refuses words usage
Refuses-use words (Refused error) faultless refused = absurd refused
Refuses-use words Arguments faultless refused = (faultless, refused)
Refuses-use words OutOfMemory faultless refused = tt

-- and clap's refusal of them
pub Refuses-by_clap : (words : List Text) (usage : Usage) → RefusesByClap qlock_app words usage → Refuses words usage
Refuses-by_clap words (Refused error) refused = refused
Refuses-by_clap words Arguments refused = absurd refused
Refuses-by_clap words OutOfMemory refused = tt
