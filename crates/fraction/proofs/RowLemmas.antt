-- Lemmas on one row of a table, and on the numbers that are formed of it.
use Rattle.std.proofs.Common.{◌≡◌, ◌≢◌, ℕ, ◌+◌, ◌*◌, ◌/◌, ◌<◌, ◌≤◌, Bool, true, false, ℤ, pos, negsuc, ◌-ℤ◌, ◌*ℤ◌, unsigned_abs, to_z, of_z, List, length, get_or, refl, sym, subst}
use Rattle.std.proofs.Common.{ap, ap₂, ◌∙◌, arith, below_more, get_or-set_same, get_or-set_other}
use Rattle.std.proofs.Math.ListN.{set}
use Rattle.std.specs.Prelude.{FitsSigned}
use Rattle.std.specs.Int.{w128, ◌∣◌}
use Rattle.std.specs.Int.Signed.{le_z}
use Rattle.std.proofs.lemmas.Int.{ints, to_z-of_z, fits_signed_from_abs}
use Rattle.std.proofs.Math.Nat.{mul-div_cancel', mul_comm}
use Rattle.fraction.specs.Fractions.{Fits, signed_of}
use Rattle.fraction.proofs.Lowest.{signed_of-*ℤ}
use Rattle.fraction.proofs.Passed.{to_z-of_z_fits}

-- a number is stored at i: what held of each entry below i, and holds of the number, holds of each below i + 1
pub set-holds_below_next : (P : ℕ → ℤ → Type 0) (xs : List ℤ) (i : ℕ) (v : ℤ) → i < length xs → ((k : ℕ) → k < i → P k (get_or xs k (pos 0))) → P i v → (k : ℕ) → k < i + 1
    → P k (get_or (set xs i v) k (pos 0))
set-holds_below_next P xs i v lt below here =
    below_more (λ k. P k (get_or (set xs i v) k (pos 0))) i
    (λ k h. let ne : k ≢ i = omega arith in subst (P k) (sym (get_or-set_other xs i k v (pos 0) ne)) (below k h))
    (subst (P i) (sym (get_or-set_same xs i v (pos 0) lt)) here)

-- the entries above i are as they were
pub set-keeps_above : (old : ℕ → ℤ) (xs : List ℤ) (i : ℕ) (v : ℤ) → ((k : ℕ) → i ≤ k → get_or xs k (pos 0) ≡ old k) → (k : ℕ) → i + 1 ≤ k → get_or (set xs i v) k (pos 0) ≡ old k
set-keeps_above old xs i v left k le = let ne : k ≢ i = omega arith in get_or-set_other xs i k v (pos 0) ne ∙ left k (omega arith)

-- an entry that was read, as the code passes it
pub passed-entry : (z : ℤ) (r q : List ℤ) (j : ℕ) → FitsSigned w128 z → z ≡ get_or r j (pos 0) → r ≡ q → to_z w128 (of_z w128 z) ≡ get_or q j (pos 0)
passed-entry z r q j fits e same = to_z-of_z w128 z fits ∙ e ∙ ap (λ x. get_or x j (pos 0)) same

-- a product, as the code forms it
pub to_z-of_z_product : (x y x' y' : ℤ) → FitsSigned w128 x → FitsSigned w128 y → x ≡ x' → y ≡ y' → Fits (x' *ℤ y') → to_z w128 (of_z w128 (to_z w128 (of_z w128 x) *ℤ to_z w128 (of_z w128 y))) ≡ x' *ℤ y'
to_z-of_z_product x y x' y' fits_x fits_y ex ey fits =
    ap (λ t. to_z w128 (of_z w128 t)) (ap₂ ◌*ℤ◌ (to_z-of_z w128 x fits_x ∙ ex) (to_z-of_z w128 y fits_y ∙ ey)) ∙ to_z-of_z_fits (x' *ℤ y') fits

pub FitsSigned-product : (x y x' y' : ℤ) → FitsSigned w128 x → FitsSigned w128 y → x ≡ x' → y ≡ y' → Fits (x' *ℤ y') → FitsSigned w128 (to_z w128 (of_z w128 x) *ℤ to_z w128 (of_z w128 y))
FitsSigned-product x y x' y' fits_x fits_y ex ey fits =
    subst (FitsSigned w128) (sym (ap₂ ◌*ℤ◌ (to_z-of_z w128 x fits_x ∙ ex) (to_z-of_z w128 y fits_y ∙ ey))) (fits_signed_from_abs w128 (x' *ℤ y') fits)

-- a difference, as the code forms it
pub to_z-of_z_difference : (a b a' b' : ℤ) → a ≡ a' → b ≡ b' → Fits (a' -ℤ b') → to_z w128 (of_z w128 (a -ℤ b)) ≡ a' -ℤ b'
to_z-of_z_difference a b a' b' ea eb fits = ap (λ t. to_z w128 (of_z w128 t)) (ap₂ ◌-ℤ◌ ea eb) ∙ to_z-of_z_fits (a' -ℤ b') fits

pub FitsSigned-difference : (a b a' b' : ℤ) → a ≡ a' → b ≡ b' → Fits (a' -ℤ b') → FitsSigned w128 (a -ℤ b)
FitsSigned-difference a b a' b' ea eb fits = subst (FitsSigned w128) (sym (ap₂ ◌-ℤ◌ ea eb)) (fits_signed_from_abs w128 (a' -ℤ b') fits)

-- a number is its absolute value with its sign
sign_of : (z : ℤ) → signed_of (le_z (pos 0) z) (unsigned_abs z) ≡ z
sign_of (pos n) = at n
  where
    above : (n : ℕ) → le_z (pos 0) (pos n) ≡ true
    above n = grind (arith, ints)

    at : (n : ℕ) → signed_of (le_z (pos 0) (pos n)) n ≡ pos n
    at n = rw (above n) refl
sign_of (negsuc n) = refl

-- a number is the quotient of its absolute value, with its sign, times the divisor
pub quotient_exact : (z : ℤ) (g : ℕ) → g ∣ unsigned_abs z → signed_of (le_z (pos 0) z) (unsigned_abs z / g) *ℤ pos g ≡ z
quotient_exact z g divides =
    at (le_z (pos 0) z) (unsigned_abs z / g)
    ∙ ap (signed_of (le_z (pos 0) z)) (mul_comm (unsigned_abs z / g) g ∙ mul-div_cancel' g divides)
    ∙ sign_of z
  where
    at : (b : Bool) (n : ℕ) → signed_of b n *ℤ pos g ≡ signed_of b (n * g)
    at true n = signed_of-*ℤ true true n g
    at false n = signed_of-*ℤ false true n g

-- an entry that is divided, as the code forms it
pub divided_entry : (old passed r : ℤ) (q size g : ℕ) → passed ≡ old → r ≡ signed_of (le_z (pos 0) passed) q → q ≡ size / g → size ≡ unsigned_abs passed → g ∣ unsigned_abs old
    → FitsSigned w128 r → to_z w128 (of_z w128 r) *ℤ pos g ≡ old
divided_entry old passed r q size g e signed quotient sized divides fits =
    let whole : q ≡ unsigned_abs old / g = quotient ∙ ap (λ n. n / g) (sized ∙ ap unsigned_abs e) in
    let shown : r ≡ signed_of (le_z (pos 0) old) (unsigned_abs old / g) = signed ∙ ap (λ z. signed_of (le_z (pos 0) z) q) e ∙ ap (signed_of (le_z (pos 0) old)) whole in
    ap (λ z. z *ℤ pos g) (to_z-of_z w128 r fits ∙ shown) ∙ quotient_exact old g divides
