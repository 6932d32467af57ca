-- Lemmas on the set of the numbers that pass a test.
use Rattle.std.proofs.Common.{◌≡◌, ℕ, ◌+◌, Bool, true, false, ◌&&◌, ◌||◌, eqb, ltb, List, [], sym, refl, ap, ap₂, ◌∙◌, inl, inr, arith}
use Rattle.std.proofs.lemmas.Bool.{cases_eq, cases_lt, eq-eqb, le-ltb, lt-ltb, ne_eqb}
use Rattle.numbers.specs.Sets.{has, set_where}
use Rattle.numbers.proofs.SetLemmas.{has-set_where, is_set_where, set_where-same}

-- the numbers below i that pass, for the loop that goes up
abbrev pub passed_below : (ℕ → Bool) → ℕ → List ℕ
passed_below p i = set_where (λ v. ltb v i && p v)

pub passed_below-none : (p : ℕ → Bool) → [] ≡ passed_below p 0
passed_below-none p = is_set_where [] (λ v. ltb v 0 && p v) tt (λ i lt. sym (ap (λ b. b && p i) (le-ltb i 0 (omega arith))))

below_more : (i j : ℕ) → (j ≡ i → ⊥) → ltb j i ≡ ltb j (i + 1)
below_more i j off =
    elim (cases_lt j i) as (λ _. ltb j i ≡ ltb j (i + 1)) [
      | inl lt ↦ lt-ltb j i lt ∙ sym (lt-ltb j (i + 1) (omega arith))
      | inr ge ↦ le-ltb j i ge ∙ sym (le-ltb j (i + 1) (omega arith))
    ]

pub passed_below-more : (p : ℕ → Bool) (i : ℕ) (s : List ℕ) → s ≡ passed_below p i → p i ≡ true → set_where (λ j. eqb j i || has s j) ≡ passed_below p (i + 1)
passed_below-more p i s e passes =
    set_where-same (λ j. eqb j i || has s j) (λ v. ltb v (i + 1) && p v) (λ j lt.
    elim (cases_eq j i) as (λ _. (eqb j i || has s j) ≡ (ltb j (i + 1) && p j)) [
      | inl at ↦
          ap (λ b. b || has s j) (eq-eqb j i at)
          ∙ sym (ap₂ (λ a b. a && b) (lt-ltb j (i + 1) (omega arith)) (ap p at ∙ passes))
      | inr off ↦
          ap (λ b. b || has s j) (ne_eqb j i off) ∙ ap (λ t. has t j) e ∙ has-set_where (λ v. ltb v i && p v) j lt
          ∙ ap (λ b. b && p j) (below_more i j off)
    ])

and_false : (a b : Bool) → b ≡ false → (a && b) ≡ false
and_false true b e = e
and_false false b e = refl

pub passed_below-other : (p : ℕ → Bool) (i : ℕ) → p i ≡ false → passed_below p i ≡ passed_below p (i + 1)
passed_below-other p i fails =
    set_where-same (λ v. ltb v i && p v) (λ v. ltb v (i + 1) && p v) (λ j lt.
    elim (cases_eq j i) as (λ _. (ltb j i && p j) ≡ (ltb j (i + 1) && p j)) [
      | inl at ↦ and_false (ltb j i) (p j) (ap p at ∙ fails) ∙ sym (and_false (ltb j (i + 1)) (p j) (ap p at ∙ fails))
      | inr off ↦ ap (λ b. b && p j) (below_more i j off)
    ])

pub passed_below-all : (p : ℕ → Bool) → passed_below p 64 ≡ set_where p
passed_below-all p = set_where-same (λ v. ltb v 64 && p v) p (λ i lt. ap (λ b. b && p i) (lt-ltb i 64 lt))
