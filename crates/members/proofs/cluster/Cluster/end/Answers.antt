use Rattle.std.proofs.Common.{◌≡◌, ◌-◌, ◌^◌, ◌∙◌, List, ap, min, subst, sum_by}
use Rattle.std.specs.List.{All}
use Rattle.std.specs.List.Sorted.{IsPermutation}
use Rattle.quorum_set.specs.declared.bridge.Side.TheVariants.{First, Second}
use Rattle.members.specs.Members.{MemberState}
use Rattle.members.specs.Records.{Draw, IsDraw, Pass, all_draws}
use Rattle.members.proofs.RecordLemmas.{AreDrawsOf-from, record_of}
use Rattle.members.proofs.cluster.Cluster.end.Goals as goal

pub returns-clause-record : goal.returns-clause-record
returns-clause-record g c =
    let cluster = g.N.ClusterName.cluster in
    let members = c.args.members.items in
    let both = c.in-Ok.ensures in
    let total = c.in_ok-total.ensures in
    let draws : c.in-Ok.draws.0.items ≡ all_draws First members = both.first ∙ ap (all_draws First) c.deref-2.ensures.value in
    let draws2 : c.in-Ok.draws.1.items ≡ all_draws Second members = both.second ∙ ap (all_draws Second) c.deref-2.ensures.value in
    record_of cluster members _
    (AreDrawsOf-from cluster First members c.by_ticket.result.items
    (subst (λ (l : List Draw). IsPermutation l c.by_ticket.result.items) draws c.by_ticket.ensures.same)
    c.by_ticket.ensures.ascending
    (subst (All (IsDraw cluster First)) draws both.each)
    (total.tickets First))
    (AreDrawsOf-from cluster Second members c.by_ticket-2.result.items
    (subst (λ (l : List Draw). IsPermutation l c.by_ticket-2.result.items) draws2 c.by_ticket-2.ensures.same)
    c.by_ticket-2.ensures.ascending
    (subst (All (IsDraw cluster Second)) draws2 both.each2)
    (total.tickets Second))
    (subst (λ (l : List Pass). IsPermutation l c.by_number.result.items) total.passes c.by_number.ensures.same)
    c.by_number.ensures.ascending
    total.each
    total.once
    total.register
    (c.lost_by-lost.ensures ∙ ap (λ (l : List MemberState). min (sum_by (λ m. m.lost) l) (2 ^ 64 - 1)) c.deref.ensures.value)
