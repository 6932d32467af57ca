-- Lemmas on sets by a test.
use Rattle.std.proofs.Common.{◌≡◌, ℕ, ◌+◌, ◌<◌, Bool, true, false, ◌||◌, ◌&&◌, eqb, List, [], ◌∷◌, length, get_or, take, ◌≤◌, sym, refl, ap, ap₂, ◌∙◌, inl, inr, arith}
use Rattle.std.proofs.lemmas.Bool.{true≢false, eq-eqb, ne_eqb, cases_eq, cases_lt}
use Rattle.std.proofs.lemmas.List.{take_more}
use Rattle.numbers.specs.Sets.{has, union, set_where}
use Rattle.numbers.proofs.SetLemmas.{IsSet-set_where, has-above, has-append, has-set_where, set_where-same}

-- the union of two sets by tests
pub union-set_where : (p q : ℕ → Bool) → union (set_where p) (set_where q) ≡ set_where (λ v. p v || q v)
union-set_where p q =
    set_where-same (λ v. has (set_where p) v || has (set_where q) v) (λ v. p v || q v) (λ i lt.
    ap₂ (λ a b. a || b) (has-set_where p i lt) (has-set_where q i lt))

-- of a set by a test with another set
pub union-set_where_left : (p : ℕ → Bool) (s : List ℕ) → union (set_where p) s ≡ set_where (λ v. p v || has s v)
union-set_where_left p s =
    set_where-same (λ v. has (set_where p) v || has s v) (λ v. p v || has s v) (λ i lt. ap (λ b. b || has s i) (has-set_where p i lt))

and_over_or : (a b c : Bool) → ((a && b) || (a && c)) ≡ (a && (b || c))
and_over_or true b c = refl
and_over_or false b c = refl

-- of two sets by tests within the same bounds
pub union-within : (r p q : ℕ → Bool) → union (set_where (λ v. r v && p v)) (set_where (λ v. r v && q v)) ≡ set_where (λ v. r v && (p v || q v))
union-within r p q =
    union-set_where (λ v. r v && p v) (λ v. r v && q v)
    ∙ set_where-same (λ v. (r v && p v) || (r v && q v)) (λ v. r v && (p v || q v)) (λ i lt. and_over_or (r i) (p i) (q i))

-- a number that fails is no member
pub has-failed : (p : ℕ → Bool) (i : ℕ) → p i ≡ false → has (set_where p) i ≡ false
has-failed p i e =
    elim (cases_lt i 64) as (λ _. has (set_where p) i ≡ false) [
      | inl lt ↦ has-set_where p i lt ∙ e
      | inr ge ↦ has-above 0 64 (set_where p) i (IsSet-set_where p) ge
    ]

-- a member is below 64 and passes
pub has-passed : (p : ℕ → Bool) (i : ℕ) → has (set_where p) i ≡ true → (i < 64) × (p i ≡ true)
has-passed p i e =
    elim (cases_lt i 64) as (λ _. (i < 64) × (p i ≡ true)) [
      | inl lt ↦ (lt, sym (has-set_where p i lt) ∙ e)
      | inr ge ↦ absurd (true≢false (sym e ∙ has-above 0 64 (set_where p) i (IsSet-set_where p) ge))
    ]

pub eqb_turned : (i j : ℕ) → eqb i j ≡ eqb j i
eqb_turned i j = elim (cases_eq i j) as (λ _. eqb i j ≡ eqb j i) [
  | inl at ↦ eq-eqb i j at ∙ sym (eq-eqb j i (sym at))
  | inr off ↦ ne_eqb i j off ∙ sym (ne_eqb j i (λ e. off (sym e)))
]

-- the members so far, for the loop that goes through a list of them
has-more : (xs : List ℕ) (k j : ℕ) → k < length xs → has (take (k + 1) xs) j ≡ (has (take k xs) j || (eqb (get_or xs k 0) j || false))
has-more xs k j lt = ap (λ t. has t j) (take_more xs k 0 lt) ∙ has-append (take k xs) (get_or xs k 0 ∷ []) j

or_turned : (a b c : Bool) → b ≡ c → (b || a) ≡ (a || (c || false))
or_turned true true c e = refl
or_turned true false c e = refl
or_turned false true true e = refl
or_turned false true false e = e
or_turned false false true e = e
or_turned false false false e = refl

pub set_where-take_more : (xs : List ℕ) (k : ℕ) (s : List ℕ) → k < length xs → s ≡ set_where (has (take k xs)) → set_where (λ j. eqb j (get_or xs k 0) || has s j) ≡ set_where (has (take (k + 1) xs))
set_where-take_more xs k s lt e =
    set_where-same (λ j. eqb j (get_or xs k 0) || has s j) (has (take (k + 1) xs)) (λ j below.
    ap (λ b. eqb j (get_or xs k 0) || b) (ap (λ t. has t j) e ∙ has-set_where (has (take k xs)) j below)
    ∙ or_turned (has (take k xs) j) (eqb j (get_or xs k 0)) (eqb (get_or xs k 0) j) (eqb_turned j (get_or xs k 0)) ∙ sym (has-more xs k j lt))

or_nothing : (a b : Bool) → b ≡ false → a ≡ (a || (b || false))
or_nothing true b e = refl
or_nothing false true e = sym e
or_nothing false false e = refl

pub set_where-take_other : (xs : List ℕ) (k : ℕ) (s : List ℕ) → k < length xs → 64 ≤ get_or xs k 0 → s ≡ set_where (has (take k xs)) → s ≡ set_where (has (take (k + 1) xs))
set_where-take_other xs k s lt out e =
    e ∙ set_where-same (has (take k xs)) (has (take (k + 1) xs)) (λ j below.
    or_nothing (has (take k xs) j) (eqb (get_or xs k 0) j) (ne_eqb (get_or xs k 0) j (λ same. omega arith)) ∙ sym (has-more xs k j lt))
