use Rattle.std.proofs.Common.{◌≡◌, true, false, refl, sym, ap, ◌∙◌, subst, rules}
use Rattle.requester.specs.Steps.{leave}
use Rattle.requester.specs.Words.{is_inside}
use Rattle.members.specs.Members.{MemberState}
use Rattle.members.proofs.MemberLemmas.{length-both_held, Ended-leave, IsMember-ended, HoldsFewer-HoldsNothing, HoldsOnly-same_votes, leave-Err}
use Rattle.requester.proofs.SoundSteps.{leave-Ok}
use Rattle.members.proofs.member.Member.leave.Goals as goal

pub returns-in_default-clause-refused : goal.returns-in_default-clause-refused
returns-in_default-clause-refused g c =
    (refl, subst (λ (m : MemberState). is_inside m.requester.phase ≡ false) c.self.view_is (leave-Err c.self.inside.requester _ c.in_default.ensures.refused.0))

pub finish-lost-requires-clause-places : goal.finish-lost-requires-clause-places
finish-lost-requires-clause-places g c =
    length-both_held _ _ _ _ _ _ c.self.invariant _ (Ended-leave c.clients_keep_their_laws.ensures _ _ c.self.invariant.sound c.in-Ok.ensures.left).sound

pub finish-lost-requires-clause-fewer : goal.finish-lost-requires-clause-fewer
finish-lost-requires-clause-fewer g c = HoldsFewer-HoldsNothing c.leave_into.new.self _ (Ended-leave c.clients_keep_their_laws.ensures _ _ c.self.invariant.sound c.in-Ok.ensures.left).nothing

pub finish-lost-requires-clause-of_members : goal.finish-lost-requires-clause-of_members
finish-lost-requires-clause-of_members g c =
    let laws = c.clients_keep_their_laws.ensures in
    let x = c.self.invariant in
    HoldsOnly-same_votes laws _ c.leave_into.new.self _ x.sound x.held (Ended-leave laws _ _ x.sound c.in-Ok.ensures.left).quorum

pub invariant_of-self-2 : goal.invariant_of-self-2
invariant_of-self-2 g c =
    let same = c.finish-lost.ensures.same in
    IsMember-ended _ _ _ _ _ _ c.self.invariant _ (Ended-leave c.clients_keep_their_laws.ensures _ _ c.self.invariant.sound c.in-Ok.ensures.left) c.finish-lost.new.seat
    same.0 same.1 c.finish-lost.ensures.held c.finish-lost.ensures.within

pub returns-clause-idle : goal.returns-clause-idle
returns-clause-idle g c = (Ended-leave c.clients_keep_their_laws.ensures _ _ c.self.invariant.sound c.in-Ok.ensures.left).idle

pub returns-clause-may : goal.returns-clause-may
returns-clause-may g c = subst (λ (m : MemberState). is_inside m.requester.phase ≡ true) c.self.view_is (leave-Ok _ _ c.in-Ok.ensures.left).0

pub returns-clause-left : goal.returns-clause-left
returns-clause-left g c = (_, sym (ap (λ (m : MemberState). leave m.requester) c.self.view_is) ∙ c.in-Ok.ensures.left, (refl, search rules))
