-- Patience: withdrawals that are hasty, of requests that did not run for two whole rounds.
use Rattle.std.specs.Prelude.{ℕ, ◌+◌, ◌&&◌, nat_lt, if◌then◌else◌, List, [], ◌∷◌}
use Rattle.requester.specs.Words.{is_asking}
use Rattle.world_state.specs.declared.step.Step.{Step}
use Rattle.world_state.specs.declared.step.Step.TheVariants.{Ask, Deliver, Leave, GiveUp, RemindClient, RemindVoter, Exchange}
use Rattle.world.specs.Runs.{after, run_of}
use Rattle.world_state.specs.Steps.{Dealing, WorldState, client_at, step}

-- 1 if a client that asks gives up in the world x, and made the request after the world u: its stamp was lower
-- there. Else 0. A withdrawal of a client that does not ask is refused, and may come at any time.
abbrev pub hasty : WorldState → WorldState → Step → ℕ
hasty u x (Ask c) = 0
hasty u x (Deliver k) = 0
hasty u x (Leave c) = 0
hasty u x (GiveUp c) = if is_asking (client_at x.clients c).phase && nat_lt (client_at u.clients c).stamp (client_at x.clients c).stamp then 1 else 0
hasty u x (RemindClient c) = 0
hasty u x (RemindVoter v) = 0
hasty u x Exchange = 0

-- how many of these steps are such withdrawals; they begin in the world x
abbrev pub hasty_steps : Dealing → WorldState → WorldState → List Step → ℕ
hasty_steps deal u x [] = 0
hasty_steps deal u x (s ∷ steps) = hasty u x s + hasty_steps deal u (after x (step deal x s)) steps

-- The same in each of these rounds. The first of them begins in w, and the two rounds before it began in v
-- and in u: whoever gives up in it made the request before u, or is hasty.
abbrev pub hasty_from : Dealing → WorldState → WorldState → WorldState → List (List Step) → ℕ
hasty_from deal u v w [] = 0
hasty_from deal u v w (r ∷ rs) = hasty_steps deal u w r + hasty_from deal v w (run_of deal r w) rs

-- How many withdrawals in these rounds are hasty: of a request that is made in one of them, and has not run for
-- two whole rounds. Made in round i, it may be given up from round i + 3 on. Requests that were made before may
-- be given up at any time. Clients are patient if no withdrawal is hasty.
abbrev pub hasty_in : Dealing → WorldState → List (List Step) → ℕ
hasty_in deal w rounds = hasty_from deal w w w rounds
