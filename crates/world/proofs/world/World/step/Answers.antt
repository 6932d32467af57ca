use Rattle.std.proofs.Common.{sym, subst}
use Rattle.world_state.specs.Numbered.{IsNumbered}
use Rattle.world.specs.States.{IsWorld}
use Rattle.world_state.specs.States.{plans_of, contents_of}
use Rattle.world_state.specs.Steps.{WorldState}
use Rattle.world.proofs.Plans.{IsReached-does}
use Rattle.world.proofs.world.World.step.Goals.{After-act}
use Rattle.world.proofs.world.World.step.Goals as goal

pub act-requires-clause-numbered : goal.act-requires-clause-numbered
act-requires-clause-numbered c = subst (λ (u : WorldState). IsNumbered u) (sym c.make_room.ensures.same) c.self.invariant.numbered

-- it is a world afterwards
kept : (c : After-act) → IsWorld (record { plans = plans_of c.self.inside.cycles; state = contents_of c.act.new.self })
kept c = c.worlds_stay_sound.ensures _ (IsReached-does (record { plans = plans_of c.self.inside.cycles; state = contents_of c.self.inside.state }) c.self.invariant.reached c.args.step
    (contents_of c.make_room.new.self) c.act.result (contents_of c.act.new.self) c.make_room.ensures.same c.act.ensures)

pub invariant_of-self : goal.invariant_of-self
invariant_of-self c = kept (goal.at.invariant_of-self c).After-act

pub returns-clause-exclusive : goal.returns-clause-exclusive
returns-clause-exclusive c = (kept (goal.at.returns-clause-exclusive c).After-act).exclusive
