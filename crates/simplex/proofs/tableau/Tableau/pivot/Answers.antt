use Rattle.simplex.proofs.Shapes.{HasSize-pivot, positive_entry}
use Rattle.simplex.proofs.tableau.Tableau.pivot.Goals as goal

pub pivot-requires-clause-positive : goal.pivot-requires-clause-positive
pivot-requires-clause-positive c = positive_entry c.entry.result _ c.if-entry-le0.false (record { sfits = c.entry.type_inv }) c.entry.ensures

pub invariant_of-self : goal.invariant_of-self
invariant_of-self c =
    let kept = HasSize-pivot c.pivot.result c.args.self.now.cells c.pivot.new.self _ _ _ _ c.pivot.ensures.value c.pivot.ensures.same (c.args.self.now.rows, c.args.self.now.columns) in
    record { few_voters = c.args.self.now.few_voters; rows = kept.0; columns = kept.1 }
