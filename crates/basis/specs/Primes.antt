-- The prime that exact numbers are computed modulo.
use Rattle.std.specs.Prelude.{ℕ}

-- 2^61 - 1, a prime of Mersenne
abbrev pub prime : ℕ
prime = 2305843009213693951
