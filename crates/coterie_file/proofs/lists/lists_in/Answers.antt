use Rattle.std.proofs.Common.{◌≡◌, sym, ap, ◌∙◌, arith, length, map, string_bytes}
use Rattle.std.proofs.lemmas.List.{length-map}
use Rattle.std.specs.Option.{ok_or}
use Rattle.toml.specs.View.{table_view}
use Rattle.coterie_file.specs.Lists.{capacities_at}
use Rattle.coterie_file.specs.declared.fault.FileFault.TheVariants.{Keys}
use Rattle.coterie_file.proofs.TableLemmas.{key_count-view, lists_in-items, lists_in-other}
use Rattle.coterie_file.proofs.lists.lists_in.Goals as goal

pub returns-then-len-wanted_keys-clause-exact : goal.returns-then-len-wanted_keys-clause-exact
returns-then-len-wanted_keys-clause-exact c =
    lists_in-other (table_view c.args.table.now) (λ e. c.if-len-wanted_keys.true (c.len.ensures.len ∙ sym (key_count-view c.args.table.now.entries) ∙ e ∙ sym c.wanted_keys.ensures))

pub returns-clause-exact : goal.returns-clause-exact
returns-clause-exact c =
    let table = table_view c.args.table.now in
    let count : length (map string_bytes c.in_ok-names.names.items) ≡ c.len-2.result = omega (arith, length-map c.in_ok-names.names.items string_bytes, c.len-2.ensures, c.in_ok-names.names.ok) in
    let each = ap (λ n. ok_or (capacities_at n table) Keys) count ∙ c.in_ok-capacities.ensures in
    lists_in-items table _ _ _ _ _ (key_count-view c.args.table.now.entries ∙ sym c.len.ensures.len ∙ c.if-len-wanted_keys.false ∙ c.wanted_keys.ensures)
    c.in-Some.ensures c.in_ok-names.ensures c.in-Some-array_at.ensures c.in_ok-quorums.ensures each
