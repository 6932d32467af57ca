use Rattle.toml.specs.Data.{no_members}
use Rattle.toml.specs.View.{table_view}
use Rattle.coterie_file.specs.Lists.{table_at}
use Rattle.coterie_file.proofs.BlankLemmas.{table_at-blank, never_refused, same_table}
use Rattle.coterie_file.proofs.lists.NameLists.of.Goals as goal

pub returns-in_err-table-clause-blank : goal.returns-in_err-table-clause-blank
returns-in_err-table-clause-blank c blank =
    let text = c.args.text.now in
    absurd (never_refused c.in_err-table.field-0.0 (table_at text) no_members c.in_err-table.ensures.exact (table_at-blank text blank) (λ e. c.in_err-table.ensures.memory e blank))

pub returns-clause-blank : goal.returns-clause-blank
returns-clause-blank c blank =
    let text = c.args.text.now in
    c.lists_in.ensures.empty (same_table (table_at text) (table_view c.in_ok-table.table) no_members c.in_ok-table.ensures.exact (table_at-blank text blank))
