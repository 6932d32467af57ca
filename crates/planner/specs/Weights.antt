-- Weights in lowest terms.
use Rattle.std.specs.Prelude.{◌≡◌, ℕ, List}
use Rattle.std.specs.List.{All}
use Rattle.std.specs.Int.{◌∣◌}

-- no number above 1 divides all of these
abbrev pub HaveNoCommonDivisor : List ℕ → Type 0
HaveNoCommonDivisor xs = (d : ℕ) → All (λ x. d ∣ x) xs → d ≡ 1

-- The greatest number that divides all of these; 0 if all are 0.
pub record IsGreatestDivisor (xs : List ℕ) (g : ℕ) : Type 0 where
  pub divides : All (λ x. g ∣ x) xs
  pub greatest : (d : ℕ) → All (λ x. d ∣ x) xs → d ∣ g
