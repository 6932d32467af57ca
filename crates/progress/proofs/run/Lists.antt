-- lists of numbers: without one of them, and what holds of each
use Rattle.std.proofs.Common.{◌≡◌, ◌≢◌, ℕ, zero, suc, ◌+◌, ◌<◌, ◌≤◌, Bool, true, false, cond, eqb, List, [], ◌∷◌, length, refl, ap, ◌∙◌, inl, inr, arith}
use Rattle.std.specs.Prelude.{◌||◌}
use Rattle.std.specs.List.{list_all, range_with_len}
use Rattle.std.proofs.lemmas.Bool.{cases_eq, false≢true}
use Rattle.std.proofs.lemmas.Bool.Decides.{nat_tests}
use Rattle.numbers.specs.Sets.{has}

pub remove_from : ℕ → List ℕ → List ℕ
remove_from d [] = []
remove_from d (x ∷ xs) = cond (eqb x d) (remove_from d xs) (x ∷ remove_from d xs)

shorter_or_same : (d : ℕ) (l : List ℕ) → length (remove_from d l) ≤ length l
unfolding remove_from
shorter_or_same d [] = omega arith
shorter_or_same d (x ∷ xs) = (let rest = shorter_or_same d xs in elim (eqb x d) as (λ b. length (cond b (remove_from d xs) (x ∷ remove_from d xs)) ≤ suc (length xs))
    [ true ↦ omega arith | false ↦ omega arith ])

pub shorter : (d : ℕ) (l : List ℕ) → has l d ≡ true → length (remove_from d l) < length l
unfolding remove_from
shorter d [] is = absurd (false≢true is)
shorter d (x ∷ xs) is = elim (eqb x d) as (λ b. (b || has xs d) ≡ true → length (cond b (remove_from d xs) (x ∷ remove_from d xs)) < suc (length xs)) [
  | true ↦ λ _. let rest = shorter_or_same d xs in omega arith
  | false ↦ λ there. let rest = shorter d xs there in omega arith
] is

pub still_there : (d e : ℕ) (l : List ℕ) → e ≢ d → has l e ≡ true → has (remove_from d l) e ≡ true
unfolding remove_from
still_there d e [] other is = absurd (false≢true is)
still_there d e (x ∷ xs) other is = elim (eqb x d) as (λ b. eqb x d ≡ b → has (cond b (remove_from d xs) (x ∷ remove_from d xs)) e ≡ true) [
  | true ↦ λ same. still_there d e xs other (grind (arith, nat_tests))
  | false ↦ λ apart. elim (eqb x e) as (λ b. (b || has xs e) ≡ true → (b || has (remove_from d xs) e) ≡ true) [
    | true ↦ λ _. refl
    | false ↦ λ there. still_there d e xs other there
  ] is
] refl

pub has_range : (low n d : ℕ) → low ≤ d → d < low + n → has (range_with_len low n) d ≡ true
has_range low zero d least less = absurd (omega arith)
has_range low (suc n) d least less = elim (cases_eq low d) [
  | inl same ↦ (let e : eqb low d ≡ true = grind (arith, nat_tests) in ap (λ b. b || has (range_with_len (low + 1) n) d) e)
  | inr other ↦ (let e : eqb low d ≡ false = grind (arith, nat_tests) in ap (λ b. b || has (range_with_len (low + 1) n) d) e ∙ has_range (low + 1) n d (omega arith) (omega arith))
]

pub all_hold : (f : ℕ → Bool) (l : List ℕ) → ((q : ℕ) → has l q ≡ true → f q ≡ true) → list_all f l ≡ true
all_hold f [] all = refl
all_hold f (x ∷ xs) all =
    let here = all x (grind (arith, nat_tests)) in
    let rest = all_hold f xs (λ q there. all q (grind (arith, nat_tests))) in
    grind (arith, nat_tests)
