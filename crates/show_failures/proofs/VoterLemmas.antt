-- Lemmas on the set of the voters that pass a test.
use Rattle.std.proofs.Common.{◌≡◌, ℕ, ◌+◌, ◌<◌, ◌≤◌, Bool, true, false, ◌&&◌, ◌||◌, List, get_or, sym, refl, ap, ◌∙◌, inl, inr, arith}
use Rattle.std.specs.Prelude.{◌==◌, nat_lt}
use Rattle.std.specs.List.{All}
use Rattle.std.proofs.lemmas.Bool.{cases_lt, cases_order, eq-eqb, ltb-true, ne_eqb, lt-ltb, le-ltb, true≢false}
use Rattle.std.proofs.lemmas.List.Elements.{All-from_get_or}
use Rattle.numbers.specs.Sets.{has, set_where}
use Rattle.numbers.proofs.SetLemmas.{IsSet-set_where, has-above, has-at, has-set_where, set_where-same}
use Rattle.numbers.proofs.Options.{and-true}

-- the voters below n that pass
abbrev pub passing : (ℕ → Bool) → ℕ → List ℕ
passing p n = set_where (λ j. nat_lt j n && p j)

more_passes : (p : ℕ → Bool) (n i : ℕ) → p n ≡ true → ((i == n) || (nat_lt i n && p i)) ≡ (nat_lt i (n + 1) && p i)
more_passes p n i has_it = elim (cases_order i n) as (λ _. ((i == n) || (nat_lt i n && p i)) ≡ (nat_lt i (n + 1) && p i)) [
  | inl same ↦ rw same (rw (eq-eqb n n refl, lt-ltb n (n + 1) (omega arith), has_it) refl)
  | inr off ↦ elim off [
    | inl before ↦ rw (ne_eqb i n (λ e. omega arith), lt-ltb i n before, lt-ltb i (n + 1) (omega arith)) refl
    | inr after ↦ rw (ne_eqb i n (λ e. omega arith), le-ltb i n (omega arith), le-ltb i (n + 1) (omega arith)) refl
  ]
]

fewer_pass : (p : ℕ → Bool) (n i : ℕ) → p n ≡ false → (nat_lt i n && p i) ≡ (nat_lt i (n + 1) && p i)
fewer_pass p n i out = elim (cases_order i n) as (λ _. (nat_lt i n && p i) ≡ (nat_lt i (n + 1) && p i)) [
  | inl same ↦ rw same (rw (le-ltb n n (omega arith), lt-ltb n (n + 1) (omega arith), out) refl)
  | inr off ↦ elim off [
    | inl before ↦ rw (lt-ltb i n before, lt-ltb i (n + 1) (omega arith)) refl
    | inr after ↦ rw (le-ltb i n (omega arith), le-ltb i (n + 1) (omega arith)) refl
  ]
]

-- the next voter passes, and is added
pub passing-with : (p : ℕ → Bool) (n v : ℕ) (s : List ℕ) → v ≡ n → s ≡ passing p n → p n ≡ true → set_where (λ j. (j == v) || has s j) ≡ passing p (n + 1)
passing-with p n v s at e has_it = rw (at, e) (set_where-same (λ j. (j == n) || has (passing p n) j) (λ j. nat_lt j (n + 1) && p j)
    (λ i lt. ap (λ b. (i == n) || b) (has-set_where (λ j. nat_lt j n && p j) i lt) ∙ more_passes p n i has_it))

-- the next voter does not pass
pub passing-without : (p : ℕ → Bool) (n : ℕ) (s : List ℕ) → s ≡ passing p n → p n ≡ false → s ≡ passing p (n + 1)
passing-without p n s e out = e ∙ set_where-same (λ j. nat_lt j n && p j) (λ j. nat_lt j (n + 1) && p j) (λ i lt. fewer_pass p n i out)

pub record Passes (p : ℕ → Bool) (n i : ℕ) : Type 0 where
  pub below : i < n
  pub passes : p i ≡ true

pub passing-has : (p : ℕ → Bool) (n i : ℕ) → has (passing p n) i ≡ true → Passes p n i
passing-has p n i e = elim (cases_lt i 64) as (λ _. Passes p n i) [
  | inl lt ↦
      let both = and-true (nat_lt i n) (p i) (sym (has-set_where (λ j. nat_lt j n && p j) i lt) ∙ e) in
      record { below = ltb-true i n both.0; passes = both.1 }
  | inr ge ↦ absurd (true≢false (sym e ∙ has-above 0 64 (passing p n) i (IsSet-set_where (λ j. nat_lt j n && p j)) ge))
]

pub has-passing : (p : ℕ → Bool) (n i : ℕ) → i < n → n ≤ 64 → p i ≡ true → has (passing p n) i ≡ true
has-passing p n i lt few has_it = has-set_where (λ j. nat_lt j n && p j) i (omega arith) ∙ rw (lt-ltb i n lt, has_it) refl

-- all members are below n
pub passing-below : (p : ℕ → Bool) (n : ℕ) → All (λ i. i < n) (passing p n)
passing-below p n = All-from_get_or (λ i. i < n) (passing p n) 0 (λ k lt. (passing-has p n (get_or (passing p n) k 0) (has-at (passing p n) k (get_or (passing p n) k 0) lt refl)).below)

pub passing-within : (p : ℕ → Bool) (n m : ℕ) (s : List ℕ) → s ≡ passing p n → n ≤ m → All (λ i. i < m) s
passing-within p n m s e le = rw e (λ k d lt. let below = passing-below p n k d lt in omega arith)
