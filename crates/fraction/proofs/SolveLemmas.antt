-- Lemmas on a pivot in lowest terms.
use Rattle.std.proofs.Common.{◌≡◌, ◌≢◌, ℕ, ◌*◌, ◌<◌, ◌≤◌, ◌^◌, ℤ, pos, negsuc, neg_ℤ, ◌*ℤ◌, ◌<ℤ◌, unsigned_abs, List, false, true, length, zero, suc, sym, subst, ap, ◌∙◌, inl, inr, arith}
use Rattle.std.proofs.lemmas.Bool.{cases_eq, eq-eqb, ne_eqb}
use Rattle.std.proofs.lemmas.Int.{ints, unsigned_abs-mul}
use Rattle.std.proofs.Math.Nat.{mul-le-mul_left}
use Rattle.fraction.specs.Fractions.{Fits}
use Rattle.fraction.specs.Tables.{Table, IsTable, IsPlace, IsPivoted, PivotFits, pivot_entry, entry_at, row_of}
use Rattle.fraction.specs.Rows.{row_at, entry_of, IsUnreduced, IsLowest}
use Rattle.fraction.proofs.Lowest.{signed_of-*ℤ}

-- a number that fits, where it fits as a multiple
smaller_fits : (z w : ℤ) (g : ℕ) → z *ℤ pos g ≡ w → 0 < g → Fits w → Fits z
smaller_fits z w g e some fits =
    let size : unsigned_abs z * g ≡ unsigned_abs w = sym (unsigned_abs-mul z (pos g)) ∙ ap (λ x. unsigned_abs x) e in
    let least : unsigned_abs z * 1 ≤ unsigned_abs z * g = mul-le-mul_left (unsigned_abs z) some in
    below (unsigned_abs z) (unsigned_abs z * g) (unsigned_abs w) least size fits
  where
    below : (a b c : ℕ) → a * 1 ≤ b → b ≡ c → c < 2 ^ 127 → a < 2 ^ 127
    below a b c h e fits = omega arith

-- the product of positive numbers is positive
pub positive-product : (a b : ℤ) → pos 0 <ℤ a → pos 0 <ℤ b → pos 0 <ℤ (a *ℤ b)
positive-product (pos zero) b above_a above_b = absurd (omega (arith, ints))
positive-product (pos (suc m)) (pos zero) above_a above_b = absurd (omega (arith, ints))
positive-product (pos (suc m)) (pos (suc n)) above_a above_b = at (suc m * suc n) (some m n)
  where
    some : (m n : ℕ) → 0 < suc m * suc n
    some m n = omega arith

    at : (k : ℕ) → 0 < k → pos 0 <ℤ pos k
    at k h = omega (arith, ints)
positive-product (pos (suc m)) (negsuc n) above_a above_b = absurd (omega (arith, ints))
positive-product (negsuc m) b above_a above_b = absurd (omega (arith, ints))

-- a number is positive where a positive multiple of it is
quotient_positive : (z w : ℤ) (g : ℕ) → z *ℤ pos g ≡ w → pos 0 <ℤ w → pos 0 <ℤ z
quotient_positive (pos zero) w g e above = absurd (none (sym e))
  where
    none : w ≡ pos 0 *ℤ pos g → ⊥
    none f = zero_not (0 * g) (omega arith) (subst (λ x. pos 0 <ℤ x) f above)
      where
        zero_not : (k : ℕ) → k ≡ 0 → pos 0 <ℤ pos k → ⊥
        zero_not k ek h = omega (arith, ints)
quotient_positive (pos (suc n)) w g e above = at (suc n) (omega arith)
  where
    at : (k : ℕ) → 0 < k → pos 0 <ℤ pos k
    at k h = omega (arith, ints)
quotient_positive (negsuc n) w g e above = absurd (not_above (suc n * g) (subst (λ x. pos 0 <ℤ x) (sym e ∙ signed_of-*ℤ false true (suc n) g) above))
  where
    not_above : (k : ℕ) → pos 0 <ℤ neg_ℤ (pos k) → ⊥
    not_above zero h = omega (arith, ints)
    not_above (suc k) h = omega (arith, ints)

-- what a pivot makes of an entry fits
pivoted_fits : (t : Table) (row col i j : ℕ) → PivotFits t row col → IsPlace t i j → Fits (pivot_entry t row col i j)
pivoted_fits t row col i j fits place =
    elim (cases_eq i row) [
      | inl at ↦ own at
      | inr ne ↦ other ne
    ]
  where
    own : i ≡ row → Fits (pivot_entry t row col i j)
    own at = rw (eq-eqb i row at) (fits.pivot_row j (subst (λ k. IsPlace t k j) at place))

    other : i ≢ row → Fits (pivot_entry t row col i j)
    other ne = rw (ne_eqb i row ne) ((fits.others i j ne place).2)

-- the numbers of a pivot, and these in lowest terms
pub IsPivoted-from_unreduced : (t : Table) (M N : List (List ℤ)) (low : ℤ) (row col : ℕ) → IsUnreduced t M row col → IsLowest M N (t.den *ℤ entry_at t row col) low
    → IsPivoted t (record { rows = N; den = low }) row col
IsPivoted-from_unreduced t M N low row col made lowest =
    let count = made.count in
    let counts = lowest.rows.0 in
    record {
      shape = record {
        rows = counts ∙ count;
        columns = λ i lt. (lowest.rows.1 i (omega arith)).0 ∙ (made.entries i lt).0;
      };
      divisor = lowest.divisor;
      positive = lowest.positive;
      den = lowest.den_is;
      entries = λ i j place.
          (lowest.rows.1 i (in_m i place.0 count)).1 j (subst (λ n. j < n) (sym (made.entries i place.0).0) place.1) ∙ (made.entries i place.0).1 j place.1;
      lowest = λ d at_low at_entries. lowest.lowest d at_low
          (λ i j lt within. at_entries i j (in_t i lt count, subst (λ n. j < n) (made.entries i (in_t i lt count)).0 within));
    }
  where
    in_m : (i : ℕ) → i < length t.rows → length M ≡ length t.rows → i < length M
    in_m i lt e = omega arith

    in_t : (i : ℕ) → i < length M → length M ≡ length t.rows → i < length t.rows
    in_t i lt e = omega arith

-- a table that is pivoted is a table
pub IsTable-pivot_entry : (t u : Table) (row col : ℕ) → IsTable t → PivotFits t row col → pos 0 <ℤ entry_at t row col → IsPivoted t u row col → IsTable u
IsTable-pivot_entry t u row col table fits positive is =
    let rows = is.shape.rows in
    record {
      level = λ i k li lk. is.shape.columns i (omega arith) ∙ table.level i k (omega arith) (omega arith) ∙ sym (is.shape.columns k (omega arith));
      entries_fit = λ i j place.
          let old : IsPlace t i j = (omega arith, subst (λ n. j < n) (is.shape.columns i (omega arith)) place.1) in
          smaller_fits _ _ is.divisor (is.entries i j old) is.positive (pivoted_fits t row col i j fits old);
      positive = quotient_positive u.den _ is.divisor is.den (positive-product t.den _ table.positive positive);
      den_fits = smaller_fits u.den _ is.divisor is.den is.positive fits.den;
    }

-- the numbers of a pivot fit
pub Fits-unreduced : (t : Table) (M : List (List ℤ)) (row col : ℕ) → PivotFits t row col → IsUnreduced t M row col → (i j : ℕ) → i < length M → j < length (row_at M i) → Fits (entry_of (row_at M i) j)
Fits-unreduced t M row col fits made i j lt within =
    let count = made.count in
    let old : i < length t.rows = omega arith in
    let here : j < length (row_of t i) = subst (λ n. j < n) (made.entries i old).0 within in
    subst Fits (sym ((made.entries i old).1 j here)) (pivoted_fits t row col i j fits (old, here))
