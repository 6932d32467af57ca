use Rattle.std.proofs.lemmas.Option.{none-some}
use Rattle.std.proofs.Common.{sym, ◌∙◌}
use Rattle.lost_rows.proofs.LiftLemmas.{lifted_bounds, lifted_words}
use Rattle.lost_rows.specs.Relearned.{lifted}
use Rattle.lost_rows.proofs.relearning.lift.Goals as goal

pub returns-in_default : goal.returns-in_default
returns-in_default c =
    let r = c.args.row.now in
    let words = lifted_words r c.args.base c.args.stamp c.save.result c.max.result c.max-2.result c.save.ensures.words c.max.ensures c.max-2.ensures in
    let bounds = lifted_bounds r c.args.base c.args.stamp c.save.ensures.bounded c.requires.sound c.requires.few in
    absurd (none-some (lifted r c.args.base c.args.stamp) (sym c.in_default.is ∙ c.restore.ensures.read (lifted r c.args.base c.args.stamp) bounds words))
