-- Numbers as the code passes them, and what it forms of them.
use Rattle.std.proofs.Common.{◌≡◌, ◌≢◌, ℤ, pos, ◌*ℤ◌, to_z, of_z, Result, Ok, Err, IsOk, IsErr, sym, subst, ap, ap₂, ◌∙◌}
use Rattle.std.specs.Int.{w128}
use Rattle.std.proofs.lemmas.Bool.{true≢false}
use Rattle.std.proofs.lemmas.Int.{to_z-of_z, fits_signed_from_abs}
use Rattle.fraction.specs.declared.fault.FracFault.{FracFault}
use Rattle.fraction.specs.Fractions.{Fraction, Fits, IsRatio, IsReduced}
use Rattle.fraction.proofs.Lowest.{product-some}

-- a number that fits, as the code passes it
pub to_z-of_z_fits : (z : ℤ) → Fits z → to_z w128 (of_z w128 z) ≡ z
to_z-of_z_fits z fits = to_z-of_z w128 z (fits_signed_from_abs w128 z fits)

-- the numbers of a fraction as the code passes them
pub passed-num : (n d : ℤ) (f : Fraction) → IsReduced (record { num = n; den = d }) → record { num = n; den = d } ≡ f
    → to_z w128 (of_z w128 n) ≡ f.num
passed-num n d f reduced is = to_z-of_z_fits n reduced.num_fits ∙ ap (λ (g : Fraction). g.num) is

pub passed-den : (n d : ℤ) (f : Fraction) → IsReduced (record { num = n; den = d }) → record { num = n; den = d } ≡ f
    → to_z w128 (of_z w128 d) ≡ f.den
passed-den n d f reduced is = to_z-of_z_fits d reduced.den_fits ∙ ap (λ (g : Fraction). g.den) is

-- a number that was formed, as the code passes it
pub passed-equal : (z t : ℤ) → (z ≡ t) × Fits t → to_z w128 (of_z w128 z) ≡ t
passed-equal z t formed = ap (λ x. to_z w128 (of_z w128 x)) formed.0 ∙ to_z-of_z_fits t formed.1

pub passed-fits : (z t : ℤ) → (z ≡ t) × Fits t → Fits (to_z w128 (of_z w128 z))
passed-fits z t formed = subst Fits (sym (passed-equal z t formed)) formed.1

-- a number that was formed of two others
pub passed-formed : (op : ℤ → ℤ → ℤ) (z x y x' y' : ℤ) → x' ≡ x → y' ≡ y → (z ≡ op x' y') × Fits (op x' y') → to_z w128 (of_z w128 z) ≡ op x y
passed-formed op z x y x' y' ex ey formed = passed-equal z (op x' y') formed ∙ ap₂ op ex ey

pub passed_product-some : (z x y x' y' : ℤ) → x' ≡ x → y' ≡ y → (z ≡ x' *ℤ y') × Fits (x' *ℤ y') → x ≢ pos 0 → y ≢ pos 0 → to_z w128 (of_z w128 z) ≢ pos 0
passed_product-some z x y x' y' ex ey formed some_x some_y = product-some x y _ some_x some_y (passed-formed ◌*ℤ◌ z x y x' y' ex ey formed)

-- what fits as the code passes it fits, and what does not fit does not
pub Fits-formed : (op : ℤ → ℤ → ℤ) (x y x' y' : ℤ) → x' ≡ x → y' ≡ y → Fits (op x' y') → Fits (op x y)
Fits-formed op x y x' y' ex ey fits = subst Fits (ap₂ op ex ey) fits

pub formed-unfit : (op : ℤ → ℤ → ℤ) (x y x' y' : ℤ) → x' ≡ x → y' ≡ y → ¬ Fits (op x' y') → ¬ Fits (op x y)
formed-unfit op x y x' y' ex ey unfit fits = unfit (subst Fits (sym (ap₂ op ex ey)) fits)

-- a fraction of numbers as the code passes them
pub IsRatio-passed : (p q p' q' : ℤ) (f : Fraction) → p' ≡ p → q' ≡ q → IsRatio p' q' f → IsRatio p q f
IsRatio-passed p q p' q' f ep eq is = subst (λ t. IsRatio p t f) eq (subst (λ t. IsRatio t q' f) ep is)

-- an answer that is a refusal, where what is wanted of an answer does not hold
pub IsOk-iff_unmet : {X : Type 0} (r : Result X FracFault) (P : Type 0) → IsErr r → ¬ P → (IsOk r → P) × (P → IsOk r)
IsOk-iff_unmet (Ok x) P err unmet = absurd (true≢false (sym err))
IsOk-iff_unmet (Err e) P err unmet = (λ ok. absurd (true≢false (sym ok)), λ p. absurd (unmet p))
