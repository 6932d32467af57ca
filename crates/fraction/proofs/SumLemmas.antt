-- Lemmas on sums of columns.
use Rattle.std.proofs.Common.{◌≡◌, ℕ, ◌+◌, ◌<◌, ◌≤◌, ℤ, pos, ◌+ℤ◌, to_z, of_z, List, length, take, get_or, sym, refl, subst, ap, ◌∙◌, inl, inr, arith}
use Rattle.std.specs.Prelude.{FitsSigned}
use Rattle.std.specs.Int.{w128}
use Rattle.std.proofs.lemmas.Bool.{cases_eq}
use Rattle.std.proofs.lemmas.Int.{to_z-of_z}
use Rattle.std.proofs.lemmas.List.{take_all}
use Rattle.std.proofs.lemmas.List.Sums.{fold_more}
use Rattle.fraction.specs.Fractions.{Fits}
use Rattle.fraction.specs.Tables.{Table, IsTable, IsSummed, SumsFit, sum_in, row_of}
use Rattle.fraction.specs.Rows.{row_at, entry_of, EachRow, IsSummedRow}
use Rattle.fraction.proofs.Passed.{passed-equal}

-- a sum of one column more, as the code forms it
pub sum_is : (r : List ℤ) (columns : List ℕ) (i : ℕ) (t x : ℤ) → i < length columns → t ≡ sum_in r (take i columns) → x ≡ entry_of r (get_or columns i 0) → FitsSigned w128 x
    → t +ℤ to_z w128 (of_z w128 x) ≡ sum_in r (take (i + 1) columns)
sum_is r columns i t x lt et ex fits_x =
    ap (λ a. a +ℤ to_z w128 (of_z w128 x)) et
    ∙ ap (λ a. sum_in r (take i columns) +ℤ a) (to_z-of_z w128 x fits_x ∙ ex)
    ∙ sym (fold_more (λ s j. s +ℤ get_or r j (pos 0)) (pos 0) columns i 0 lt)

pub sum_in-step : (r : List ℤ) (columns : List ℕ) (i : ℕ) (t x t' : ℤ) → i < length columns → t ≡ sum_in r (take i columns) → x ≡ entry_of r (get_or columns i 0)
    → FitsSigned w128 x → (t' ≡ t +ℤ to_z w128 (of_z w128 x)) × Fits (t +ℤ to_z w128 (of_z w128 x)) → (to_z w128 (of_z w128 t') ≡ sum_in r (take (i + 1) columns))
    × Fits (sum_in r (take (i + 1) columns))
sum_in-step r columns i t x t' lt et ex fits_x formed =
    let e = sum_is r columns i t x lt et ex fits_x in
    let fits = subst Fits e formed.1 in
    (passed-equal t' _ (formed.0 ∙ e, fits), fits)

pub Fits-sum_in_step : (r : List ℤ) (columns : List ℕ) (i : ℕ) → ((k : ℕ) → k ≤ i → Fits (sum_in r (take k columns))) → Fits (sum_in r (take (i + 1) columns)) → (k : ℕ)
    → k ≤ i + 1 → Fits (sum_in r (take k columns))
Fits-sum_in_step r columns i below here k le =
    elim (cases_eq k (i + 1)) [
      | inl at ↦ subst (λ n. Fits (sum_in r (take n columns))) (sym at) here
      | inr off ↦ below k (omega arith)
    ]

-- rows with their sums are a table with its sums
pub IsSummed-from_rows : (t : Table) (M : List (List ℤ)) (columns : List ℕ) (into : ℕ) → EachRow (IsSummedRow columns into) t.rows M → IsSummed t (record { rows = M; den = t.den }) columns into
IsSummed-from_rows t M columns into is = record {
  shape = record { rows = is.0; columns = λ i lt. (is.1 i lt).0 };
  den = refl;
  sums = λ i lt. (is.1 i lt).1;
  others = λ i j lt ne. (is.1 i lt).2 j ne;
}

pub IsTable-summed : (t : Table) (M : List (List ℤ)) (columns : List ℕ) (into : ℕ) → IsTable t → SumsFit t columns → EachRow (IsSummedRow columns into) t.rows M
    → IsTable (record { rows = M; den = t.den })
IsTable-summed t M columns into table fits is =
    let count = is.0 in
    record {
      level = λ i k li lk. (is.1 i (omega arith)).0 ∙ table.level i k (omega arith) (omega arith) ∙ sym (is.1 k (omega arith)).0;
      entries_fit = λ i j place. entry i j (old i place.0 count) (subst (λ n. j < n) (is.1 i (old i place.0 count)).0 place.1);
      positive = table.positive;
      den_fits = table.den_fits;
    }
  where
    old : (i : ℕ) → i < length M → length M ≡ length t.rows → i < length t.rows
    old i lt e = omega arith

    entry : (i j : ℕ) → i < length t.rows → j < length (row_of t i) → Fits (entry_of (row_at M i) j)
    entry i j lt within =
        elim (cases_eq j into) [
          | inl at ↦ subst Fits (sym (ap (entry_of (row_at M i)) at ∙ (is.1 i lt).1)) (subst (λ cs. Fits (sum_in (row_of t i) cs)) (take_all (length columns) columns (omega arith)) (fits i lt (length columns) (omega arith)))
          | inr off ↦ subst Fits (sym ((is.1 i lt).2 j off)) (table.entries_fit i j (lt, within))
        ]
