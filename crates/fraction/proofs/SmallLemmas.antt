-- Lemmas on small numbers, whose products fit.
use Rattle.std.proofs.Common.{◌≡◌, ℕ, ◌+◌, ◌*◌, ◌<◌, ◌≤◌, ◌^◌, ℤ, pos, negsuc, ◌-ℤ◌, ◌*ℤ◌, unsigned_abs, length, List, sym, subst, arith}
use Rattle.std.proofs.lemmas.Int.{ints, unsigned_abs-mul}
use Rattle.std.proofs.Math.Nat.{mul-le-mul}
use Rattle.fraction.specs.Fractions.{Fits}
use Rattle.fraction.specs.Tables.{PivotFits}
use Rattle.fraction.specs.Rows.{row_at, entry_of, IsSmall, IsLevelWith}

-- the product of small numbers
small_product : (a b : ℤ) → unsigned_abs a ≤ 2 ^ 62 → unsigned_abs b ≤ 2 ^ 62 → unsigned_abs (a *ℤ b) ≤ 2 ^ 124
small_product a b ha hb = let bound = mul-le-mul ha hb in let size = unsigned_abs-mul a b in at _ _ size bound
  where
    at : (m n : ℕ) → m ≡ n → n ≤ 2 ^ 62 * 2 ^ 62 → m ≤ 2 ^ 124
    at m n e h = omega arith

-- a difference of numbers is at most the sum of their sizes
abs-diff : (x y : ℤ) → unsigned_abs (x -ℤ y) ≤ unsigned_abs x + unsigned_abs y
abs-diff (pos a) (pos b) = grind (arith, ints)
abs-diff (pos a) (negsuc b) = grind (arith, ints)
abs-diff (negsuc a) (pos b) = grind (arith, ints)
abs-diff (negsuc a) (negsuc b) = grind (arith, ints)

fits_product : (a b : ℤ) → unsigned_abs a ≤ 2 ^ 62 → unsigned_abs b ≤ 2 ^ 62 → Fits (a *ℤ b)
fits_product a b ha hb = let bound = small_product a b ha hb in omega arith

-- two products of small numbers, and their difference
small_entry : (a b c d : ℤ) → unsigned_abs a ≤ 2 ^ 62 → unsigned_abs b ≤ 2 ^ 62 → unsigned_abs c ≤ 2 ^ 62 → unsigned_abs d ≤ 2 ^ 62 → Fits (a *ℤ b) × Fits (c *ℤ d) × Fits ((a *ℤ b) -ℤ (c *ℤ d))
small_entry a b c d ha hb hc hd =
    let left = small_product a b ha hb in
    let right = small_product c d hc hd in
    (fits_product a b ha hb, fits_product c d hc hd, between (a *ℤ b) (c *ℤ d) left right)
  where
    between : (x y : ℤ) → unsigned_abs x ≤ 2 ^ 124 → unsigned_abs y ≤ 2 ^ 124 → Fits (x -ℤ y)
    between x y hx hy = let bound = abs-diff x y in omega arith

-- the pivot of a table of small numbers fits
pub PivotFits-small : (L : List (List ℤ)) (den : ℤ) (row col : ℕ) → unsigned_abs den ≤ 2 ^ 62 → ((i : ℕ) → i < length L → IsSmall (row_at L i)) → row < length L
    → IsLevelWith L row → col < length (row_at L row) → PivotFits (record { rows = L; den = den }) row col
PivotFits-small L den row col small_den small inside level within =
    let top = small row inside col within in
    record {
      den = fits_product den _ small_den top;
      pivot_row = λ j place. fits_product _ den (small row inside j place.1) small_den;
      others = λ i j ne place.
          let same = level i place.0 in
          let entry = small i place.0 j place.1 in
          let taken = small i place.0 col (subst (λ n. col < n) (sym same) within) in
          let above = small row inside j (subst (λ n. j < n) same place.1) in
          small_entry (entry_of (row_at L i) j) (entry_of (row_at L row) col) (entry_of (row_at L i) col) (entry_of (row_at L row) j) entry top taken above;
    }
