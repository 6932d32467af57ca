-- The greatest common divisor, and quotients in lowest terms.
use Rattle.std.specs.Prelude.{ℕ, ◌+◌, ◌/◌, ◌%◌, ◌==◌, ◌&&◌, if◌then◌else◌, zero, suc}

-- the greatest number up to n that divides both, or 0
unfoldable pub common_divisor_up_to : ℕ → ℕ → ℕ → ℕ
common_divisor_up_to zero a b = 0
common_divisor_up_to (suc n) a b = if (a % suc n == 0) && (b % suc n == 0) then suc n else common_divisor_up_to n a b

-- the greatest number that divides both; 0 if both are 0
unfoldable pub gcd_of : ℕ → ℕ → ℕ
gcd_of a b = common_divisor_up_to (a + b) a b

-- a quotient in lowest terms: both numbers, divided by their greatest common divisor
abbrev pub lowest_terms : ℕ → ℕ → ℕ × ℕ
lowest_terms a b = (a / gcd_of a b, b / gcd_of a b)
