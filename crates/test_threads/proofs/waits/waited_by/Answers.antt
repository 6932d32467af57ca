use Rattle.std.proofs.Common.{◌≡◌, subst, sym, true}
use Rattle.std.proofs.lemmas.List.Elements.{All-take}
use Rattle.members.specs.Members.{AreIdle, MemberState}
use Rattle.requester.specs.Words.{is_idle}
use Rattle.test_threads.proofs.waits.waited_by.Goals as goal

-- all but the last of the members are idle, as all of them are
pub waits-requires-clause-idle : goal.waits-requires-clause-idle
waits-requires-clause-idle g c κs within =
    subst AreIdle (sym c.pop.ensures.rest) (All-take (λ (m : MemberState). is_idle m.requester.phase ≡ true) _ _ c.in-Ok.ensures.idle)
