use Rattle.std.proofs.Common.{◌≡◌, pos, ◌<ℤ◌, sym, subst, ap, ◌∙◌, refl, arith}
use Rattle.std.specs.Int.{w128}
use Rattle.std.proofs.lemmas.Int.{to_z-of_z}
use Rattle.std.proofs.lemmas.List.{length-map}
use Rattle.fraction.specs.Fractions.{Fits}
use Rattle.fraction.specs.Tables.{Table, IsTable, IsPivoted, PivotFits, entry_at}
use Rattle.fraction.specs.Rows.{lists_of, entry_of, IsUnreduced, IsLowest}
use Rattle.fraction.proofs.RowLemmas.{to_z-of_z_product, FitsSigned-product}
use Rattle.fraction.proofs.SolveLemmas.{positive-product, IsPivoted-from_unreduced, IsTable-pivot_entry, Fits-unreduced}
use Rattle.fraction.proofs.rows.solve.Goals as goal

pub overflow_mul-new_den : goal.overflow_mul-new_den
overflow_mul-new_den c =
    let entry_is = c.entry.ensures ∙ ap (λ r. entry_of r c.args.column) c.row_of.ensures in
    FitsSigned-product c.args.den c.entry.result c.args.den _ c.ranges.den (record { sfits = c.entry.type_inv }) refl entry_is c.requires.fits.den

pub pivot-requires-clause-fits : goal.pivot-requires-clause-fits
pivot-requires-clause-fits c =
    subst (λ d. PivotFits (record { rows = lists_of c.args.rows.now; den = d }) c.args.row c.args.column) (sym (to_z-of_z w128 c.args.den c.ranges.den)) c.requires.fits

pub reduce-requires : goal.reduce-requires
reduce-requires c =
    let t : Table = record { rows = lists_of c.args.rows.now; den = c.args.den } in
    let entry_is : c.entry.result ≡ entry_at t c.args.row c.args.column = c.entry.ensures ∙ ap (λ r. entry_of r c.args.column) c.row_of.ensures in
    let den_is = to_z-of_z_product c.args.den c.entry.result c.args.den _ c.ranges.den (record { sfits = c.entry.type_inv }) refl entry_is c.requires.fits.den in
    let many = length-map c.pivot.new.rows (λ row. row.items) in
    let made = subst (λ d. IsUnreduced (record { rows = lists_of c.args.rows.now; den = d }) (lists_of c.pivot.new.rows) c.args.row c.args.column)
    (to_z-of_z w128 c.args.den c.ranges.den) c.pivot.ensures in
    record {
      positive = subst (λ d. pos 0 <ℤ d) (sym den_is) (positive-product c.args.den _ c.requires.table.positive c.requires.positive);
      den_fits = subst Fits (sym den_is) c.requires.fits.den;
      fits = λ i j lt. Fits-unreduced t (lists_of c.pivot.new.rows) c.args.row c.args.column c.requires.fits made i j (omega arith);
    }

pub returns : goal.returns
returns c =
    let t : Table = record { rows = lists_of c.args.rows.now; den = c.args.den } in
    let entry_is : c.entry.result ≡ entry_at t c.args.row c.args.column = c.entry.ensures ∙ ap (λ r. entry_of r c.args.column) c.row_of.ensures in
    let den_is = to_z-of_z_product c.args.den c.entry.result c.args.den _ c.ranges.den (record { sfits = c.entry.type_inv }) refl entry_is c.requires.fits.den in
    let made = subst (λ d. IsUnreduced (record { rows = lists_of c.args.rows.now; den = d }) (lists_of c.pivot.new.rows) c.args.row c.args.column)
    (to_z-of_z w128 c.args.den c.ranges.den) c.pivot.ensures in
    let lowest = subst (λ d. IsLowest (lists_of c.pivot.new.rows) (lists_of c.reduce.new.rows) d c.reduce.result) den_is c.reduce.ensures in
    let is = IsPivoted-from_unreduced t (lists_of c.pivot.new.rows) (lists_of c.reduce.new.rows) c.reduce.result c.args.row c.args.column made lowest in
    let result_is = to_z-of_z w128 c.reduce.result (record { sfits = c.reduce.type_inv }) in
    record {
      value = subst (λ d. IsPivoted t (record { rows = lists_of c.reduce.new.rows; den = d }) c.args.row c.args.column) (sym result_is) is;
      table = subst (λ d. IsTable (record { rows = lists_of c.reduce.new.rows; den = d })) (sym result_is)
          (IsTable-pivot_entry t _ c.args.row c.args.column c.requires.table c.requires.fits c.requires.positive is);
    }
