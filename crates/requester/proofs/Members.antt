-- Facts on the members of a quorum, on sets of voters, and on lists with a place for each voter.
use Rattle.std.proofs.Common.{◌≡◌, ◌≢◌, ℕ, ◌+◌, ◌<◌, ◌≤◌, Bool, true, false, ◌&&◌, ◌||◌, not, map, eqb, ltb, List, [], ◌∷◌, length, get_or, refl, sym}
use Rattle.std.proofs.Common.{ap, subst, ◌∙◌, ◌⊎◌, inl, inr, arith}
use Rattle.std.specs.List.{AllByRecursion, IsDistinct, list_all, list_any, flat_map}
use Rattle.std.proofs.lemmas.Bool.{false≢true, cases_lt, cases_eq, eq-eqb, ne_eqb, and_from, and_parts, not-true, or_left, or_right}
use Rattle.std.proofs.lemmas.Bool.Decides.{nat_tests}
use Rattle.std.proofs.lemmas.Map.Keys.{IsDistinct-cons}
use Rattle.std.proofs.lemmas.List.{get_or_past}
use Rattle.numbers.proofs.Lists.{AllByRecursion-append}
use Rattle.numbers.specs.Sets.{has, Ascends, IsSet, set_where}
use Rattle.numbers.proofs.SetLemmas.{IsSet-set_where, has-IsSet_below, has-set_where, length-Ascends}
use Rattle.requester.specs.Soundness.{AreMembers}
use Rattle.requester.specs.Words.{with_voter, without_voter}

pub absurd-true_false : {A : Type 0} → (b : Bool) → b ≡ true → b ≡ false → A
absurd-true_false b t f = absurd (false≢true (sym f ∙ t))

-- Sets

pub all_below-from_Ascends : (low : ℕ) (s : List ℕ) → Ascends low 64 s → AllByRecursion (λ v. v < 64) s
all_below-from_Ascends low [] h = tt
all_below-from_Ascends low (v ∷ vs) h = (h.1, all_below-from_Ascends (v + 1) vs h.2)

all_differ-from_Ascends : (low v : ℕ) (s : List ℕ) → Ascends low 64 s → v < low → AllByRecursion (λ u. eqb v u ≡ false) s
all_differ-from_Ascends low v [] h lt = tt
all_differ-from_Ascends low v (u ∷ us) h lt =
    let differ : v ≡ u → ⊥ = λ e. omega arith in
    (ne_eqb v u differ, all_differ-from_Ascends (u + 1) v us h.2 (omega arith))

pub IsDistinct-from_Ascends : (low : ℕ) (s : List ℕ) → Ascends low 64 s → IsDistinct eqb s
unfolding IsDistinct
IsDistinct-from_Ascends low [] h = tt
IsDistinct-from_Ascends low (v ∷ vs) h = IsDistinct-cons eqb v vs (all_differ-from_Ascends (v + 1) v vs h.2 (omega arith)) (IsDistinct-from_Ascends (v + 1) vs h.2)

pub length-IsSet : (s : List ℕ) → IsSet s → length s ≤ 64
length-IsSet s h = let most = length-Ascends 0 64 s (omega arith) h in omega arith

pub AreMembers-set : (s : List ℕ) → IsSet s → AreMembers s
AreMembers-set s is = record { few = length-IsSet s is; voters = all_below-from_Ascends 0 s is; apart = IsDistinct-from_Ascends 0 s is }

pub list_all-member : (p : ℕ → Bool) (v : ℕ) (vs : List ℕ) → list_all p vs ≡ true → has vs v ≡ true → p v ≡ true
list_all-member p v [] a b = absurd (false≢true b)
list_all-member p v (u ∷ us) a b =
    let parts = and_parts (p u) (list_all p us) a in
    elim (eqb u v) as (λ t. eqb u v ≡ t → (t || has us v) ≡ true → p v ≡ true) [
      | true ↦ λ e _. let same : u ≡ v = grind (arith, nat_tests) in subst (λ n. p n ≡ true) same parts.0
      | false ↦ λ _ rest. list_all-member p v us parts.1 rest
    ] refl b

-- what holds of each number of a list under one test, holds under a weaker one
pub list_all-weaker : (p q : ℕ → Bool) (vs : List ℕ) → ((v : ℕ) → p v ≡ true → q v ≡ true) → list_all p vs ≡ true → list_all q vs ≡ true
list_all-weaker p q [] weaker all = refl
list_all-weaker p q (v ∷ vs) weaker all =
    let parts = and_parts (p v) (list_all p vs) all in
    and_from (q v) (list_all q vs) (weaker v parts.0) (list_all-weaker p q vs weaker parts.1)

pub list_any-weaker : (p q : ℕ → Bool) (vs : List ℕ) → ((v : ℕ) → p v ≡ true → q v ≡ true) → list_any p vs ≡ true → list_any q vs ≡ true
list_any-weaker p q [] weaker any = absurd (false≢true any)
list_any-weaker p q (v ∷ vs) weaker any = elim (p v) as (λ b. p v ≡ b → (b || list_any p vs) ≡ true → (q v || list_any q vs) ≡ true) [
  | true ↦ λ is _. or_left (q v) (list_any q vs) (weaker v is)
  | false ↦ λ _ rest. or_right (q v) (list_any q vs) (list_any-weaker p q vs weaker rest)
] refl any

pub list_any-member : (p : ℕ → Bool) (v : ℕ) (vs : List ℕ) → has vs v ≡ true → p v ≡ true → list_any p vs ≡ true
list_any-member p v [] is passes = absurd (false≢true is)
list_any-member p v (u ∷ us) is passes =
    elim (eqb u v) as (λ t. eqb u v ≡ t → (t || has us v) ≡ true → list_any p (u ∷ us) ≡ true) [
      | true ↦ λ e _. let same : v ≡ u = grind (arith, nat_tests) in or_left (p u) (list_any p us) (subst (λ n. p n ≡ true) same passes)
      | false ↦ λ _ rest. or_right (p u) (list_any p us) (list_any-member p v us rest passes)
    ] refl is

-- Sets with one voter more or less

pub has-with_voter : (s : List ℕ) (v u : ℕ) → has (with_voter s v) u ≡ true → (u ≡ v) ⊎ (has s u ≡ true)
has-with_voter s v u h =
    let p : ℕ → Bool = λ i. eqb i v || has s i in
    let below = has-IsSet_below (set_where p) u (IsSet-set_where p) h in
    let passes : (eqb u v || has s u) ≡ true = sym (has-set_where p u below) ∙ h in
    elim (cases_eq u v) [
      | inl same ↦ inl same
      | inr other ↦ inr (ap (λ b. b || has s u) (sym (ne_eqb u v other)) ∙ passes)
    ]

pub has-without_voter : (s : List ℕ) (v u : ℕ) → has (without_voter s v) u ≡ true → (u ≢ v) × (has s u ≡ true)
has-without_voter s v u h =
    let p : ℕ → Bool = λ i. not (eqb i v) && has s i in
    let below = has-IsSet_below (set_where p) u (IsSet-set_where p) h in
    let passes = and_parts (not (eqb u v)) (has s u) (sym (has-set_where p u below) ∙ h) in
    (λ same. absurd-true_false (eqb u v) (eq-eqb u v same) (not-true (eqb u v) passes.0), passes.1)

-- a set without a voter has the others as before
pub has-without_voter-other : (s : List ℕ) (v u : ℕ) → u < 64 → u ≢ v → has (without_voter s v) u ≡ has s u
has-without_voter-other s v u below other =
    has-set_where (λ i. not (eqb i v) && has s i) u below ∙ ap (λ b. not b && has s u) (ne_eqb u v other)

pub with_below : (s : List ℕ) (v u : ℕ) → has (with_voter s v) u ≡ true → u < 64
with_below s v u is = (let p : ℕ → Bool = λ i. eqb i v || has s i in has-IsSet_below (set_where p) u (IsSet-set_where p) is)

pub without_below : (s : List ℕ) (v u : ℕ) → has (without_voter s v) u ≡ true → u < 64
without_below s v u is = (let p : ℕ → Bool = λ i. not (eqb i v) && has s i in has-IsSet_below (set_where p) u (IsSet-set_where p) is)

pub has_with-self : (s : List ℕ) (v : ℕ) → v < 64 → has (with_voter s v) v ≡ true
has_with-self s v below = has-set_where (λ i. eqb i v || has s i) v below ∙ or_left (eqb v v) (has s v) (eq-eqb v v refl)

pub has_with-before : (s : List ℕ) (v u : ℕ) → u < 64 → has s u ≡ true → has (with_voter s v) u ≡ true
has_with-before s v u below is = has-set_where (λ i. eqb i v || has s i) u below ∙ or_right (eqb u v) (has s u) is

pub has_with-other : (s : List ℕ) (v u : ℕ) → u < 64 → u ≢ v → has (with_voter s v) u ≡ has s u
has_with-other s v u below other = has-set_where (λ i. eqb i v || has s i) u below ∙ ap (λ b. b || has s u) (ne_eqb u v other)

pub has_without-self : (s : List ℕ) (v : ℕ) → v < 64 → has (without_voter s v) v ≡ false
has_without-self s v below = has-set_where (λ i. not (eqb i v) && has s i) v below ∙ ap (λ b. not b && has s v) (eq-eqb v v refl)

-- Lists of messages

-- what is said of each member
pub AllByRecursion-map_members : {A : Type 0} (P : A → Type 0) (f : ℕ → A) (vs : List ℕ) → ((v : ℕ) → has vs v ≡ true → P (f v)) → AllByRecursion P (map f vs)
AllByRecursion-map_members P f [] h = tt
AllByRecursion-map_members P f (v ∷ vs) h = (h v (grind (arith, nat_tests)), AllByRecursion-map_members P f vs (λ u member. h u (grind (arith, nat_tests))))

pub AllByRecursion-flat_map_members : {A : Type 0} (P : A → Type 0) (f : ℕ → List A) (vs : List ℕ) → ((v : ℕ) → has vs v ≡ true → AllByRecursion P (f v)) → AllByRecursion P (flat_map f vs)
AllByRecursion-flat_map_members P f [] h = tt
AllByRecursion-flat_map_members P f (v ∷ vs) h = AllByRecursion-append P (f v) (flat_map f vs) (h v (grind (arith, nat_tests)))
    (AllByRecursion-flat_map_members P f vs (λ u member. h u (grind (arith, nat_tests))))

-- Places

pub get_or-some_below : (xs : List ℕ) (v : ℕ) → ltb 0 (get_or xs v 0) ≡ true → v < length xs
get_or-some_below xs v h = elim (cases_lt v (length xs)) [
  | inl less ↦ less
  | inr past ↦ let none = get_or_past xs v 0 past in absurd-true_false (ltb 0 (get_or xs v 0)) h (ap (ltb 0) none)
]
