use Rattle.std.proofs.Common.{arith, map, string_bytes, subst, take}
use Rattle.std.specs.List.{AllByRecursion}
use Rattle.std.proofs.lemmas.List.{take_all}
use Rattle.numbers.proofs.Lists.{AllByRecursion-weaker}
use Rattle.show_compare.specs.Compare.{HasGroupsOf, shown}
use Rattle.show_compare.proofs.GroupLemmas.{all-take-more, groups_of_stay}
use Rattle.show_compare.proofs.groups.groups_of_entries.Goals as goal

pub loop-entry-preserved : goal.loop-entry-preserved
loop-entry-preserved c =
    let entries = c.args.entries.now in
    let k = c.loop-entry.entry-index in
    let old = map string_bytes c.loop-entry.groups.items in
    let new = map string_bytes c.add_groups.new.groups.items in
    all-take-more (λ e. HasGroupsOf new (shown e)) entries k c.entry-item.result c.entry-item.is (omega arith)
    (AllByRecursion-weaker (λ e. HasGroupsOf old (shown e)) (λ e. HasGroupsOf new (shown e)) (λ e h. groups_of_stay old new (shown e) c.in_ok-add_groups.ensures.kept h)
    (take k entries) c.loop-entry.invariant)
    c.in_ok-add_groups.ensures.added

pub returns : goal.returns
returns c =
    subst (AllByRecursion (λ e. HasGroupsOf (map string_bytes c.loop-entry.groups.items) (shown e))) (take_all c.loop-entry.entry-index c.args.entries.now (omega arith))
    c.loop-entry.invariant
