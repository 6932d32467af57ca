use Rattle.std.proofs.Common.{◌≡◌, ◌<◌, ◌∙◌, ap, nat_le, sym}
use Rattle.std.specs.List.{All, list_all}
use Rattle.std.proofs.lemmas.List.Elements.{All-push}
use Rattle.show_failures.specs.Groups.{leads}
use Rattle.show_failures.proofs.GroupLemmas.{groups_below-with, groups_below-without}
use Rattle.show_failures.proofs.groups.groups_of.Goals as goal
use Rattle.show_failures.proofs.groups.groups_of.Goals.{then-leads+in_ok-push, else-leads}

pub loop-voter-preserved : goal.loop-voter-preserved
loop-voter-preserved c =
    let named = c.args.named.now in
    let k = c.loop-voter.voter in
    let old = c.loop-voter.groups.items in
    let group = c.group_of-group.result in
    let tested : leads named.names k ≡ c.leads.result = ap (list_all (nat_le k)) (sym c.group_of-group.ensures.group) ∙ sym c.leads.ensures in
    elim c.if-leads.branch [
      | then-leads+in_ok-push w ↦
          let added = ap (λ v. v.items) w.groups-is ∙ w.in_ok-push.ensures.items in
          record {
            are = groups_below-with named.names k old c.if-leads.groups.items group c.loop-voter.invariant.are (tested ∙ w.if-leads.true) c.group_of-group.ensures.group added;
            voters = rw added (All-push (λ g. All (λ i. i < named.system.voters) g) old group c.loop-voter.invariant.voters c.group_of-group.ensures.voters);
          }
      | else-leads w ↦
          let same = ap (λ v. v.items) w.groups-is in
          record {
            are = same ∙ groups_below-without named.names k old c.loop-voter.invariant.are (tested ∙ w.if-leads.false);
            voters = rw same c.loop-voter.invariant.voters;
          }
    ]
