use Rattle.std.proofs.Common.{◌<◌, ◌^◌, true≢false, sym, ap, ◌∙◌, subst, arith}
use Rattle.requester.specs.declared.state.ClientState.{ClientState}
use Rattle.requester.specs.Soundness.{IsSound}
use Rattle.requester.specs.Words.{is_idle}
use Rattle.board.specs.Seats.{ClientSeatState as SeatState}
use Rattle.clerks.specs.Clerks.{ClerksState, HasShare, IsThere, names_of}
use Rattle.members.specs.Clusters.{names_in}
use Rattle.members.proofs.ClerkLemmas.{HasShare-fresh, names_of-fresh}
use Rattle.members.proofs.MemberLemmas.{HoldsWithin-nobody}
use Rattle.members.proofs.member.Member.new.Goals as goal

pub invariant_of-result : goal.invariant_of-result
invariant_of-result g c =
    let id = c.client.result in
    let cluster = g.N.ClusterName.cluster in
    let names = names_in cluster in
    let below : id < 64 = omega (arith, c.requires.client, c.requires.few, c.client.ensures.value) in
    record {
      sound = subst IsSound (sym c.new.ensures) (c.requesters_stay_sound.ensures.first id (2 ^ 40) below (omega arith) (omega arith));
      client = ap (λ (x : ClientState). x.id) c.new.ensures ∙ c.client.ensures.value;
      inside = c.requires.client;
      table = ap (λ (s : SeatState). s.table) c.requires.fresh;
      offices = ap names_of c.requires.clerks ∙ names_of-fresh names cluster.quota;
      share = subst (λ (k : ClerksState). HasShare k cluster.quota) (sym c.requires.clerks) (HasShare-fresh names cluster.quota);
      in_use = subst (λ (k : ClerksState). IsThere k.side k.second) (sym c.requires.clerks) tt;
      held = ap (λ (s : SeatState). s.held) c.requires.fresh ∙ sym (ap (λ (x : ClientState). x.held) c.new.ensures);
      within = HoldsWithin-nobody g.N.ClusterName.cluster.board.voters c.args.seat.held (ap (λ (s : SeatState). s.held) c.requires.fresh);
      asks = λ busy. absurd (true≢false (sym (ap (λ (x : ClientState). is_idle x.phase) c.new.ensures) ∙ busy));
    }
