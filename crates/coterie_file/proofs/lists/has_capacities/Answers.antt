use Rattle.std.proofs.Common.{ap, ◌∙◌, codes}
use Rattle.std.specs.Option.{is_some}
use Rattle.toml.proofs.Views.{table_get}
use Rattle.toml.specs.View.{view}
use Rattle.coterie_file.proofs.TableLemmas.{is_some-option_map}
use Rattle.coterie_file.proofs.lists.has_capacities.Goals as goal

pub returns : goal.returns
returns c =
    c.is_some.ensures ∙ is_some-option_map (λ x. view x.now) c.get.result
    ∙ ap is_some (table_get c.get.result (codes "capacity") c.args.table.now.entries c.get.ensures.value)
