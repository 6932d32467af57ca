use Rattle.std.proofs.Common.{ap, ◌∙◌, eqb}
use Rattle.numbers.specs.Sets.{union}
use Rattle.construct.proofs.SetLemmas.{union-set_where_left}
use Rattle.construct.proofs.shapes.tree.with_node.Goals as goal

pub returns : goal.returns
returns c = c.join.ensures.value ∙ ap (λ s. union s c.args.set.now) c.node.ensures ∙ union-set_where_left (λ v. eqb v c.args.i) c.args.set.now
