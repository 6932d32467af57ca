use Rattle.std.proofs.Common.{◌≡◌, true, false, refl, sym, ap, ◌∙◌, subst, rules}
use Rattle.requester.specs.Steps.{give_up}
use Rattle.requester.specs.Words.{is_asking}
use Rattle.members.specs.Members.{MemberState}
use Rattle.members.proofs.MemberLemmas.{length-both_held, Ended-give_up, IsMember-ended, HoldsFewer-HoldsNothing, HoldsOnly-same_votes, give_up-Err}
use Rattle.requester.proofs.SoundSteps.{give_up-Ok}
use Rattle.members.proofs.member.Member.give_up.Goals as goal

pub returns-in_default-clause-refused : goal.returns-in_default-clause-refused
returns-in_default-clause-refused g c =
    (refl, subst (λ (m : MemberState). is_asking m.requester.phase ≡ false) c.self.view_is (give_up-Err c.self.inside.requester _ c.in_default.ensures.refused.0))

pub finish-lost-requires-clause-places : goal.finish-lost-requires-clause-places
finish-lost-requires-clause-places g c =
    length-both_held _ _ _ _ _ _ c.self.invariant _ (Ended-give_up c.clients_keep_their_laws.ensures _ _ c.self.invariant.sound c.in-Ok.ensures.given_up).sound

pub finish-lost-requires-clause-fewer : goal.finish-lost-requires-clause-fewer
finish-lost-requires-clause-fewer g c = HoldsFewer-HoldsNothing c.give_up_into.new.self _ (Ended-give_up c.clients_keep_their_laws.ensures _ _ c.self.invariant.sound c.in-Ok.ensures.given_up).nothing

pub finish-lost-requires-clause-of_members : goal.finish-lost-requires-clause-of_members
finish-lost-requires-clause-of_members g c =
    let laws = c.clients_keep_their_laws.ensures in
    let x = c.self.invariant in
    HoldsOnly-same_votes laws _ c.give_up_into.new.self _ x.sound x.held (Ended-give_up laws _ _ x.sound c.in-Ok.ensures.given_up).quorum

pub invariant_of-self-2 : goal.invariant_of-self-2
invariant_of-self-2 g c =
    let same = c.finish-lost.ensures.same in
    IsMember-ended _ _ _ _ _ _ c.self.invariant _ (Ended-give_up c.clients_keep_their_laws.ensures _ _ c.self.invariant.sound c.in-Ok.ensures.given_up) c.finish-lost.new.seat
    same.0 same.1 c.finish-lost.ensures.held c.finish-lost.ensures.within

pub returns-clause-given_up : goal.returns-clause-given_up
returns-clause-given_up g c = (_, sym (ap (λ (m : MemberState). give_up m.requester) c.self.view_is) ∙ c.in-Ok.ensures.given_up, (refl, search rules))

pub returns-clause-idle : goal.returns-clause-idle
returns-clause-idle g c = (Ended-give_up c.clients_keep_their_laws.ensures _ _ c.self.invariant.sound c.in-Ok.ensures.given_up).idle

pub returns-clause-may : goal.returns-clause-may
returns-clause-may g c = subst (λ (m : MemberState). is_asking m.requester.phase ≡ true) c.self.view_is (give_up-Ok _ _ c.in-Ok.ensures.given_up).0
