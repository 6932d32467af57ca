use Rattle.std.proofs.Common.{◌≡◌, ℕ, List, false, sym, ap, ◌∙◌, subst}
use Rattle.requester.specs.declared.state.Seen.{Seen}
use Rattle.requester.specs.RequesterContract.{Sees}
use Rattle.requester.specs.Words.{is_idle, is_inside}
use Rattle.board.specs.Seats.{ClientSeatState as SeatState}
use Rattle.node.specs.Votes.{HoldsOnly}
use Rattle.members.specs.Members.{MemberState}
use Rattle.members.proofs.MemberLemmas.{length-both_held, Took-from_take, IsMember-took}
use Rattle.members.proofs.member.Member.meet.Goals as goal

pub finish-lost-requires-clause-places : goal.finish-lost-requires-clause-places
finish-lost-requires-clause-places g c =
    let t = Took-from_take c.clients_keep_their_laws.ensures _ _ _ _ _ c.self.invariant.sound c.requires.mail
    (sym (ap (λ (m : MemberState). m.requester.id) c.self.view_is)) c.cluster.invariant.cluster.few_voters c.take_into-seen.ensures.taken in
    let both = length-both_held _ _ _ _ _ _ c.self.invariant _ t.sound in
    (c.if-not-accept.ensures.len ∙ both.0, both.1)

pub finish-lost-requires-clause-of_members : goal.finish-lost-requires-clause-of_members
finish-lost-requires-clause-of_members g c =
    let t = Took-from_take c.clients_keep_their_laws.ensures _ _ _ _ _ c.self.invariant.sound c.requires.mail
    (sym (ap (λ (m : MemberState). m.requester.id) c.self.view_is)) c.cluster.invariant.cluster.few_voters c.take_into-seen.ensures.taken in
    subst (λ (q : List ℕ). HoldsOnly q c.accept.new.seat.held) (sym t.quorum.0) c.if-not-accept.ensures.of_members

pub invariant_of-self-2 : goal.invariant_of-self-2
invariant_of-self-2 g c =
    let t = Took-from_take c.clients_keep_their_laws.ensures _ _ _ _ _ c.self.invariant.sound c.requires.mail
    (sym (ap (λ (m : MemberState). m.requester.id) c.self.view_is)) c.cluster.invariant.cluster.few_voters c.take_into-seen.ensures.taken in
    let same = c.finish-lost.ensures.same in
    let kept = c.if-not-accept.ensures.same in
    IsMember-took _ _ _ _ _ _ c.self.invariant _ _ t c.finish-lost.new.seat
    (same.0 ∙ ap (λ (s : SeatState). s.table) kept) (same.1 ∙ ap (λ (s : SeatState). s.client) kept) c.finish-lost.ensures.held c.finish-lost.ensures.within

pub returns-clause-entered : goal.returns-clause-entered
returns-clause-entered g c = λ e.
    let t = Took-from_take c.clients_keep_their_laws.ensures _ _ _ _ _ c.self.invariant.sound c.requires.mail
    (sym (ap (λ (m : MemberState). m.requester.id) c.self.view_is)) c.cluster.invariant.cluster.few_voters c.take_into-seen.ensures.taken in
    let entered = subst (λ (seen : Seen). Sees c.self.inside.requester.phase seen c.take_into-seen.new.self.phase) e t.sees in
    (subst (λ (m : MemberState). is_inside m.requester.phase ≡ false) c.self.view_is entered.0, entered.1)

pub returns-clause-stays : goal.returns-clause-stays
returns-clause-stays g c = λ e.
    let t = Took-from_take c.clients_keep_their_laws.ensures _ _ _ _ _ c.self.invariant.sound c.requires.mail
    (sym (ap (λ (m : MemberState). m.requester.id) c.self.view_is)) c.cluster.invariant.cluster.few_voters c.take_into-seen.ensures.taken in
    let stays = subst (λ (seen : Seen). Sees c.self.inside.requester.phase seen c.take_into-seen.new.self.phase) e t.sees in
    sym stays ∙ ap (λ (m : MemberState). is_inside m.requester.phase) c.self.view_is

pub returns-clause-busy : goal.returns-clause-busy
returns-clause-busy g c =
    let t = Took-from_take c.clients_keep_their_laws.ensures _ _ _ _ _ c.self.invariant.sound c.requires.mail
    (sym (ap (λ (m : MemberState). m.requester.id) c.self.view_is)) c.cluster.invariant.cluster.few_voters c.take_into-seen.ensures.taken in
    t.quorum.1 ∙ ap (λ (m : MemberState). is_idle m.requester.phase) c.self.view_is

pub returns-clause-not_left : goal.returns-clause-not_left
returns-clause-not_left g c = λ e.
    (Took-from_take c.clients_keep_their_laws.ensures _ _ _ _ _ c.self.invariant.sound c.requires.mail
    (sym (ap (λ (m : MemberState). m.requester.id) c.self.view_is)) c.cluster.invariant.cluster.few_voters c.take_into-seen.ensures.taken).stays e
