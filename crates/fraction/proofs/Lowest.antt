-- Lemmas on lowest terms.
use Rattle.std.proofs.Common.{◌≡◌, ◌≢◌, ℕ, ◌*◌, ◌/◌, ◌<◌, ◌≤◌, ◌^◌, Bool, true, false, not, zero, suc, ℤ, pos, negsuc, neg_ℤ, ◌*ℤ◌, ◌<ℤ◌, unsigned_abs, sym, refl, ap, subst, ◌∙◌, arith}
use Rattle.std.specs.Bool.{beq}
use Rattle.std.proofs.lemmas.Int.{ints, unsigned_abs-mul}
use Rattle.std.specs.Int.{IsGcd}
use Rattle.std.specs.Int.Signed.{lt_z}
use Rattle.std.proofs.Math.Nat.{mul-div_cancel', mul-zero, zero-mul, div-le_self}
use Rattle.divisor.proofs.GcdLemmas.{IsGcd-some, IsGcd-lowest, lowest-exact}
use Rattle.fraction.specs.Fractions.{Fraction, IsReduced, IsRatio, Fits, signed_of}

-- a number that is not 0 has an absolute value above 0
pub unsigned_abs-some : (z : ℤ) → z ≢ pos 0 → 0 < unsigned_abs z
unsigned_abs-some (pos zero) ne = absurd (ne refl)
unsigned_abs-some (pos (suc n)) ne = omega arith
unsigned_abs-some (negsuc n) ne = omega arith

unsigned_abs-signed_of : (b : Bool) (n : ℕ) → unsigned_abs (signed_of b n) ≡ n
unsigned_abs-signed_of true n = refl
unsigned_abs-signed_of false zero = refl
unsigned_abs-signed_of false (suc n) = refl

-- the product of two numbers with these signs and absolute values
pub signed_of-*ℤ : (s t : Bool) (m n : ℕ) → signed_of s m *ℤ signed_of t n ≡ signed_of (beq s t) (m * n)
signed_of-*ℤ true true m n = refl
signed_of-*ℤ true false m zero = none m
  where
    none : (m : ℕ) → pos (m * 0) ≡ neg_ℤ (pos (m * 0))
    none m = rw (mul-zero m) refl
signed_of-*ℤ true false m (suc n) = refl
signed_of-*ℤ false true zero n = none n
  where
    none : (n : ℕ) → pos (0 * n) ≡ neg_ℤ (pos (0 * n))
    none n = rw (zero-mul n) refl
signed_of-*ℤ false true (suc m) n = refl
signed_of-*ℤ false false zero zero = refl
signed_of-*ℤ false false zero (suc n) = none n
  where
    none : (n : ℕ) → neg_ℤ (pos (0 * suc n)) ≡ pos (0 * suc n)
    none n = rw (zero-mul (suc n)) refl
signed_of-*ℤ false false (suc m) zero = none m
  where
    none : (m : ℕ) → neg_ℤ (pos (suc m * 0)) ≡ pos (suc m * 0)
    none m = rw (mul-zero (suc m)) refl
signed_of-*ℤ false false (suc m) (suc n) = refl

-- numbers with signs, of which the absolute values are in one ratio
ratio_of : (x y : Bool) (a b s t : ℕ) → s * b ≡ a * t → signed_of (beq x y) s *ℤ signed_of (not y) b ≡ signed_of (not x) a *ℤ signed_of true t
ratio_of true true a b s t e = signed_of-*ℤ true false s b ∙ ap (λ n. signed_of false n) e ∙ sym (signed_of-*ℤ false true a t)
ratio_of true false a b s t e = signed_of-*ℤ false true s b ∙ ap (λ n. signed_of false n) e ∙ sym (signed_of-*ℤ false true a t)
ratio_of false true a b s t e = signed_of-*ℤ false false s b ∙ ap (λ n. signed_of true n) e ∙ sym (signed_of-*ℤ true true a t)
ratio_of false false a b s t e = signed_of-*ℤ true true s b ∙ ap (λ n. signed_of true n) e ∙ sym (signed_of-*ℤ true true a t)

-- a number is its absolute value with its sign
pub signed_of-abs : (z : ℤ) → z ≡ signed_of (not (lt_z z (pos 0))) (unsigned_abs z)
signed_of-abs (pos n) = at n
  where
    below : (n : ℕ) → lt_z (pos n) (pos 0) ≡ false
    below n = grind (arith, ints)

    at : (n : ℕ) → pos n ≡ signed_of (not (lt_z (pos n) (pos 0))) n
    at n = rw (below n) refl
signed_of-abs (negsuc n) = refl

-- A fraction whose numbers are those of num / den, divided by their greatest common divisor, with the sign in the numerator.
pub record IsDivided (num den : ℤ) (g : ℕ) (f : Fraction) : Type 0 where
  pub divisor : IsGcd (unsigned_abs num) (unsigned_abs den) g
  pub num_is : f.num ≡ signed_of (beq (lt_z num (pos 0)) (lt_z den (pos 0))) (unsigned_abs num / g)
  pub den_is : f.den ≡ pos (unsigned_abs den / g)

pub IsRatio-divided : (num den : ℤ) (g : ℕ) (f : Fraction) → IsDivided num den g f → IsRatio num den f
IsRatio-divided num den g f d =
    let size_n : ℕ = unsigned_abs num in
    let size_d : ℕ = unsigned_abs den in
    let signed = ratio_of (lt_z num (pos 0)) (lt_z den (pos 0)) size_n size_d (size_n / g) (size_d / g) (lowest-exact size_n size_d g d.divisor) in
    ap (λ x. x *ℤ den) d.num_is
    ∙ ap (λ x. signed_of (beq (lt_z num (pos 0)) (lt_z den (pos 0))) (size_n / g) *ℤ x) (signed_of-abs den)
    ∙ signed
    ∙ ap (λ x. x *ℤ pos (size_d / g)) (sym (signed_of-abs num))
    ∙ ap (λ x. num *ℤ x) (sym d.den_is)

pub IsReduced-divided : (num den : ℤ) (g : ℕ) (f : Fraction) → IsDivided num den g f → den ≢ pos 0 → Fits num → Fits den → IsReduced f
IsReduced-divided num den g f d some num_fits den_fits =
    let size_n : ℕ = unsigned_abs num in
    let size_d : ℕ = unsigned_abs den in
    let some_d = unsigned_abs-some den some in
    let some_g = IsGcd-some size_n size_d g d.divisor some_d in
    let num_abs : unsigned_abs f.num ≡ size_n / g = ap (λ z. unsigned_abs z) d.num_is ∙ unsigned_abs-signed_of _ _ in
    let den_abs : unsigned_abs f.den ≡ size_d / g = ap (λ z. unsigned_abs z) d.den_is in
    let whole : g * (size_d / g) ≡ size_d = mul-div_cancel' g d.divisor.1 in
    let lowest = IsGcd-lowest size_n size_d g d.divisor some_g in
    record {
      positive = subst (λ z. pos 0 <ℤ z) (sym d.den_is) (above_zero (size_d / g) (quotient-some g (size_d / g) size_d whole some_d));
      lowest = subst (λ b. IsGcd (unsigned_abs f.num) b 1) (sym den_abs) (subst (λ a. IsGcd a (size_d / g) 1) (sym num_abs) lowest);
      num_fits = smaller _ (size_n / g) size_n num_abs (div-le_self size_n g) num_fits;
      den_fits = smaller _ (size_d / g) size_d den_abs (div-le_self size_d g) den_fits;
    }
  where
    above_zero : (n : ℕ) → 0 < n → pos 0 <ℤ pos n
    above_zero n h = omega (arith, ints)

    quotient-some : (g q n : ℕ) → g * q ≡ n → 0 < n → 0 < q
    quotient-some g zero n e some = let none = mul-zero g in absurd (omega arith)
    quotient-some g (suc q) n e some = omega arith

    smaller : (a b c : ℕ) → a ≡ b → b ≤ c → c < 2 ^ 127 → a < 2 ^ 127
    smaller a b c e h fits = omega arith

-- a product of numbers that are not 0 is not 0
pub product-some : (a b z : ℤ) → a ≢ pos 0 → b ≢ pos 0 → z ≡ a *ℤ b → z ≢ pos 0
product-some a b z some_a some_b e none =
    let size : unsigned_abs a * unsigned_abs b ≡ 0 = sym (unsigned_abs-mul a b) ∙ ap (λ x. unsigned_abs x) (sym e ∙ none) in
    no_zero (unsigned_abs a) (unsigned_abs b) (unsigned_abs-some a some_a) (unsigned_abs-some b some_b) size
  where
    no_zero : (m n : ℕ) → 0 < m → 0 < n → m * n ≡ 0 → ⊥
    no_zero zero n some_m some_n e = omega arith
    no_zero (suc m) n some_m some_n e = omega arith

-- a number above 0 is not 0
pub positive-some : (z : ℤ) → pos 0 <ℤ z → z ≢ pos 0
positive-some z above none = omega (arith, ints)
