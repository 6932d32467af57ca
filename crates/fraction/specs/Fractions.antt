-- Fractions of whole numbers in lowest terms.
use Rattle.std.specs.Prelude.{◌≡◌, ℕ, Bool, true, false, neg_ℤ, ◌<◌, ◌^◌, ℤ, pos, ◌+ℤ◌, ◌-ℤ◌, ◌*ℤ◌, ◌<ℤ◌, unsigned_abs, Result, Ok, Err}
use Rattle.std.specs.Int.{IsGcd}
use Rattle.fraction.specs.declared.fault.FracFault.{FracFault}
use Rattle.fraction.specs.declared.fault.FracFault.TheVariants.{Overflow}

-- a numerator over a denominator
pub record Fraction : Type 0 where
  pub num : ℤ
  pub den : ℤ

-- the absolute value is at most 2^127 - 1
abbrev pub Fits : ℤ → Type 0
Fits z = unsigned_abs z < 2 ^ 127

-- the number with this absolute value: at least 0 for true, at most 0 for false
abbrev pub signed_of : Bool → ℕ → ℤ
signed_of true n = pos n
signed_of false n = neg_ℤ (pos n)

-- a fraction in lowest terms over a positive denominator, with numbers that fit
pub record IsReduced (f : Fraction) : Type 0 where
  pub positive : pos 0 <ℤ f.den
  pub lowest : IsGcd (unsigned_abs f.num) (unsigned_abs f.den) 1
  pub num_fits : Fits f.num
  pub den_fits : Fits f.den

-- the fraction is p / q
abbrev pub IsRatio : ℤ → ℤ → Fraction → Type 0
IsRatio p q f = f.num *ℤ q ≡ p *ℤ f.den

-- The numbers that a call computes fit: for a sum, a difference, a product, a quotient and a
-- comparison.

abbrev pub SumFits : Fraction → Fraction → Type 0
SumFits f g =
    Fits (f.num *ℤ g.den) × Fits (g.num *ℤ f.den) × Fits (f.den *ℤ g.den)
    × Fits ((f.num *ℤ g.den) +ℤ (g.num *ℤ f.den))

abbrev pub DifferenceFits : Fraction → Fraction → Type 0
DifferenceFits f g =
    Fits (f.num *ℤ g.den) × Fits (g.num *ℤ f.den) × Fits (f.den *ℤ g.den)
    × Fits ((f.num *ℤ g.den) -ℤ (g.num *ℤ f.den))

abbrev pub ProductFits : Fraction → Fraction → Type 0
ProductFits f g = Fits (f.num *ℤ g.num) × Fits (f.den *ℤ g.den)

abbrev pub QuotientFits : Fraction → Fraction → Type 0
QuotientFits f g = Fits (f.num *ℤ g.den) × Fits (f.den *ℤ g.num)

abbrev pub ComparisonFits : Fraction → Fraction → Type 0
ComparisonFits f g = Fits (f.num *ℤ g.den) × Fits (g.num *ℤ f.den)

-- the result is the number if it fits, else `Overflow`
abbrev pub Checks : ℤ → Result ℤ FracFault → Type 0
Checks z (Ok x) = (x ≡ z) × Fits z
Checks z (Err e) = (e ≡ Overflow) × ¬ Fits z
