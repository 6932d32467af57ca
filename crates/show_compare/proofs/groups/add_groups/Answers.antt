use Rattle.std.proofs.Common.{map, string_bytes, subst}
use Rattle.std.proofs.lemmas.Result.{IfOk-weaker}
use Rattle.show_compare.specs.Compare.{HasGroups, HasGroupsOf, shown}
use Rattle.show_compare.proofs.groups.add_groups.Goals as goal

pub returns-clause-added : goal.returns-clause-added
returns-clause-added c =
    let groups = map string_bytes c.add_losses.new.groups.items in
    let entry = c.args.entry.now in
    IfOk-weaker c.add_losses.result (λ _. HasGroups groups entry.candidate.now.named c.as_slice.result.now) (λ _. HasGroupsOf groups (shown entry))
    (λ _ h e. subst (HasGroups groups entry.candidate.now.named) c.as_slice.ensures.value h) c.add_losses.ensures.added
