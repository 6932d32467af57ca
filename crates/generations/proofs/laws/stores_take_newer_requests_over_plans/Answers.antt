use Rattle.generations.proofs.Turns.{taken_in_turn}
use Rattle.generations.specs.Turns.{HasTurn}
use Rattle.generations.proofs.laws.stores_take_newer_requests_over_plans.Goals as goal

pub returns : goal.returns
returns c count plans by voters floor ceiling last entries succession limits keep settled =
    taken_in_turn by (HasTurn plans by voters last)
    (λ e f is_e is_f. c.turns_grow_over_plans.ensures count plans by voters floor ceiling last e f succession limits keep settled is_e is_f) entries
