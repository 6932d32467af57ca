use Rattle.std.proofs.Common.{rules, ◌↔◌, pos, to_z, of_z, get_or, subst, IsOk}
use Rattle.std.specs.Prelude.{FitsSigned}
use Rattle.std.specs.Int.{w128}
use Rattle.std.proofs.lemmas.Int.{to_z-of_z}
use Rattle.fraction.specs.Rows.{entry_of, CombineFits}
use Rattle.fraction.proofs.row.test_eliminate.Goals as goal

pub returns-clause-fits : goal.returns-clause-fits
returns-clause-fits c =
    let taken : FitsSigned w128 (get_or c.args.row.now c.args.column (pos 0)) = search rules in
    subst (λ s. IsOk c.test_combine.result ↔ CombineFits c.args.row.now s c.args.pivot_row.now (entry_of c.args.row.now c.args.column)) (to_z-of_z w128 c.args.scale c.ranges.scale)
    (subst (λ t. IsOk c.test_combine.result ↔ CombineFits c.args.row.now (to_z w128 (of_z w128 c.args.scale)) c.args.pivot_row.now t) (to_z-of_z w128 _ taken) c.test_combine.ensures.fits)
