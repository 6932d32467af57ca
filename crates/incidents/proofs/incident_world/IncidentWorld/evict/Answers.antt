use Rattle.world.specs.States.{saved_of}
use Rattle.world_state.specs.States.{plans_of}
use Rattle.incidents.proofs.CallLemmas.{holder_fit, kept_by_eviction}
use Rattle.incidents.proofs.incident_world.IncidentWorld.evict.Goals as goal

pub let_go-requires-clause-holder : goal.let_go-requires-clause-holder
let_go-requires-clause-holder c = holder_fit (record { plans = plans_of c.self.inside.cycles; saved = saved_of c.self.inside.stored }) c.self.invariant c.args.voter

pub invariant_of-self : goal.invariant_of-self
invariant_of-self c =
    kept_by_eviction c.worlds_stay_fit.ensures.fit (record { plans = plans_of c.self.inside.cycles; saved = saved_of c.self.inside.stored }) c.self.invariant c.args.voter c.let_go.result (saved_of c.let_go.new.stored) c.let_go.ensures.evicted c.let_go.ensures.grant c.let_go.ensures.there
    c.let_go.ensures.unchanged
