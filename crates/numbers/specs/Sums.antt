-- Sums over the numbers below a bound, and lists of all these numbers.
use Rattle.std.specs.Prelude.{◌≡◌, ◌<◌, ℕ, zero, suc, ◌+◌, List, length}
use Rattle.numbers.specs.Counts.{times}

-- the sum of the values of h at the numbers below n
abbrev pub sum_below : (ℕ → ℕ) → ℕ → ℕ
sum_below h zero = 0
sum_below h (suc n) = sum_below h n + h n

-- the list has n entries, and each number below n is exactly one of them
pub record AreAllBelow (list : List ℕ) (n : ℕ) : Type 0 where
  pub in_all : length list ≡ n
  pub each_once : (i : ℕ) → i < n → times i list ≡ 1
