use Rattle.std.proofs.Common.{◌*◌, ◌/◌, ◌%◌, ltb, eqb, ap₂, ◌∙◌}
use Rattle.numbers.specs.Sets.{union}
use Rattle.construct.proofs.SetLemmas.{union-within}
use Rattle.construct.proofs.shapes.grid.row_with_column.Goals as goal

pub returns : goal.returns
returns c =
    let voters = c.args.rows * c.args.columns in
    c.join.ensures.value ∙ ap₂ union c.row.ensures c.column.ensures
    ∙ union-within (λ v. ltb v voters) (λ v. eqb (v / c.args.columns) c.args.i) (λ v. eqb (v % c.args.columns) c.args.k)
