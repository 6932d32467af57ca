-- a voter more in a set
use Rattle.std.proofs.Common.{◌≡◌, ◌≢◌, ℕ, ◌<◌, Bool, true, false, refl, ◌⊎◌, inl, inr, arith, subst, sym}
use Rattle.std.specs.Prelude.{◌==◌, ◌^◌, max}
use Rattle.std.specs.Int.{bit_at}
use Rattle.std.proofs.lemmas.Bool.{eqb-true}
use Rattle.std.proofs.lemmas.Bool.Decides.{nat_tests}
use Rattle.std.proofs.lemmas.Nat.Bits.{bit_at-lt, bit_at_or, bit_at-pow_other, bit_at-pow_same}
use Rattle.starts.specs.Starts.{has_voter, with_voter}

one_of_both : (a b m : ℕ) → m ≡ max a b → b ≡ 0 → (m == 1) ≡ true → (a == 1) ≡ true
one_of_both a b m is none one = grind (arith, nat_tests)

other_voter : (set voter v : ℕ) → v ≢ voter → has_voter (with_voter set voter) v ≡ true → has_voter set v ≡ true
other_voter set voter v other has =
    one_of_both (bit_at set v) (bit_at (2 ^ voter) v) (bit_at (with_voter set voter) v) (bit_at_or set (2 ^ voter) v) (bit_at-pow_other voter v other) has

by_test : (set voter v : ℕ) (b : Bool) → (v == voter) ≡ b → has_voter (with_voter set voter) v ≡ true → has_voter set v ≡ true ⊎ (v ≡ voter)
by_test set voter v true is has = inr (eqb-true v voter is)
by_test set voter v false is has = inl (other_voter set voter v (let other : v ≢ voter = grind (arith, nat_tests) in other) has)

-- who is in the set is the new voter, or was in it before
pub has_with : (set voter v : ℕ) → has_voter (with_voter set voter) v ≡ true → has_voter set v ≡ true ⊎ (v ≡ voter)
has_with set voter v has = by_test set voter v (v == voter) refl has

one_of_these : (a b m : ℕ) → m ≡ max a b → a < 2 → b < 2 → ((a == 1) ≡ true) ⊎ (b ≡ 1) → (m == 1) ≡ true
one_of_these a b m is few less (inl first) = grind (arith, nat_tests)
one_of_these a b m is few less (inr second) = grind (arith, nat_tests)

-- a voter stays in a set with one more, and that one is in it
pub with_both : (set voter v : ℕ) → (has_voter set v ≡ true) ⊎ (v ≡ voter) → has_voter (with_voter set voter) v ≡ true
with_both set voter v (inl was) =
    one_of_these (bit_at set v) (bit_at (2 ^ voter) v) (bit_at (with_voter set voter) v) (bit_at_or set (2 ^ voter) v) (bit_at-lt set v) (bit_at-lt (2 ^ voter) v) (inl was)
with_both set voter v (inr it) =
    one_of_these (bit_at set v) (bit_at (2 ^ voter) v) (bit_at (with_voter set voter) v) (bit_at_or set (2 ^ voter) v) (bit_at-lt set v) (bit_at-lt (2 ^ voter) v)
    (inr (subst (λ (u : ℕ). bit_at (2 ^ voter) u ≡ 1) (sym it) (bit_at-pow_same voter)))
