-- Shapes of tables.
use Rattle.std.proofs.Common.{◌≡◌, ℕ, ◌<◌, false, ℤ, pos, ◌<ℤ◌, to_z, of_z, length, Result, Ok, Err, OnOk, OnErr, sym, subst, ◌∙◌, arith}
use Rattle.std.specs.Prelude.{FitsSigned}
use Rattle.std.specs.Int.{w128}
use Rattle.std.specs.Int.Signed.{le_z}
use Rattle.std.proofs.lemmas.Int.{ints, to_z-of_z}
use Rattle.fraction.specs.declared.fault.FracFault.{FracFault}
use Rattle.fraction.specs.Tables.{Table, IsPivoted, row_of}

-- a table has these numbers of rows and columns
abbrev pub HasSize : Table → ℕ → ℕ → Type 0
HasSize t rows columns = (length t.rows ≡ rows) × ((i : ℕ) → i < rows → length (row_of t i) ≡ columns)

-- a table keeps its size at a pivot
pub HasSize-pivot : (r : Result (Unit {0}) FracFault) (t u : Table) (row col rows columns : ℕ) → OnOk r (IsPivoted t u row col) → OnErr r (u ≡ t) → HasSize t rows columns → HasSize u rows columns
HasSize-pivot (Ok x) t u row col rows columns value same size =
    let count = size.0 in
    (value.shape.rows ∙ size.0, λ i lt. value.shape.columns i (omega arith) ∙ size.1 i lt)
HasSize-pivot (Err e) t u row col rows columns value same size = subst (λ v. HasSize v rows columns) (sym same) size

-- a number that the code finds not to be at most 0
pub positive_entry : (z e : ℤ) → le_z (to_z w128 (of_z w128 z)) (pos 0) ≡ false → FitsSigned w128 z → z ≡ e → pos 0 <ℤ e
positive_entry z e test fits is = subst (λ x. pos 0 <ℤ x) is (above z (subst (λ x. le_z x (pos 0) ≡ false) (to_z-of_z w128 z fits) test))
  where
    above : (z : ℤ) → le_z z (pos 0) ≡ false → pos 0 <ℤ z
    above z test = grind (arith, ints)
