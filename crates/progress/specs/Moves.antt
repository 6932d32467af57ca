-- Moves: what may happen in a round while some clients are dead. A move is a step, or a voter lets its
-- grant go.
use Rattle.std.specs.Prelude.{ℕ, ◌≢◌, ◌+◌, List, [], ◌∷◌, ◌++◌, length, map, Option, None, Some}
use Rattle.message.specs.declared.message.ToVoter.{ToVoter}
use Rattle.message.specs.declared.message.VoterBody.TheVariants as asks
use Rattle.voter.specs.declared.state.Grant.{Grant}
use Rattle.world_state.specs.declared.step.Step.{Step}
use Rattle.world.specs.Restarts.{OneClient, maker}
use Rattle.world.specs.Runs.{after, run_of}
use Rattle.world_state.specs.Steps.{Dealing, WorldState, step, vote, voter_at}
use Rattle.progress.specs.Patience.{hasty}
use Rattle.progress.specs.Rounds.{late_steps}

-- a step, or a voter lets its grant go
pub data Move : Type 0 where
  Goes : Step → Move
  LetsGo : ℕ → Move

-- the RELEASE of this grant, in its client's name
abbrev pub release_of : ℕ → Grant → ToVoter
release_of v g = record { client = g.client; voter = v; body = asks.Release g.stamp }

-- the voter takes the RELEASE of its grant, which nobody sent; without a grant nothing happens
abbrev pub let_go : WorldState → ℕ → Option Grant → WorldState
let_go w v None = w
let_go w v (Some g) = after w (vote w (release_of v g))

-- the world after a move
abbrev pub move : Dealing → WorldState → Move → WorldState
move deal w (Goes s) = after w (step deal w s)
move deal w (LetsGo v) = let_go w v (voter_at w.voters v).held

-- the world after these moves
abbrev pub moved : Dealing → List Move → WorldState → WorldState
moved deal [] w = w
moved deal (m ∷ moves) w = moved deal moves (move deal w m)

-- this holds of each of these moves, in the world before it
abbrev pub EachMove : (WorldState → Move → Type 0) → Dealing → WorldState → List Move → Type 0
EachMove P deal w [] = Unit {0}
EachMove P deal w (m ∷ moves) = P w m × EachMove P deal (move deal w m) moves

-- the client neither acts in this move, nor takes a message, nor is reminded
abbrev pub IsNotBy : ℕ → WorldState → Move → Type 0
IsNotBy c w (Goes s) = maker w s ≢ OneClient c
IsNotBy c w (LetsGo v) = Unit {0}

-- What rounds are made of: all steps, perhaps among other moves, and what a list of them makes of a
-- world.
pub record Kind (M : Type 0) : Type 0 where
  pub goes : Step → M
  pub run : Dealing → List M → WorldState → WorldState

-- of steps alone
abbrev pub of_steps : Kind Step
of_steps = record { goes = λ s. s; run = run_of }

abbrev pub of_moves : Kind Move
of_moves = record { goes = Goes; run = moved }

-- the moves of these rounds
abbrev pub moves_of : List (List Move) → List Move
moves_of [] = []
moves_of (r ∷ rs) = r ++ moves_of rs

-- rounds of steps as rounds of moves
abbrev pub all_go : List (List Step) → List (List Move)
all_go rounds = map (map Goes) rounds

-- the steps among these moves
abbrev pub steps_among : List Move → List Step
steps_among [] = []
steps_among (Goes s ∷ moves) = s ∷ steps_among moves
steps_among (LetsGo v ∷ moves) = steps_among moves

-- how often REQUESTs arrive late in these rounds, as `late_in` counts it
abbrev pub late_among : Dealing → ℕ → WorldState → List (List Move) → ℕ
late_among deal old w [] = 0
late_among deal old w (r ∷ rs) = late_steps old w.sent (steps_among r) + late_among deal (length w.sent) (moved deal r w) rs

-- how many withdrawals of these moves are of requests that were made after the world u
abbrev pub hasty_moves : Dealing → WorldState → WorldState → List Move → ℕ
hasty_moves deal u x [] = 0
hasty_moves deal u x (Goes s ∷ moves) = hasty u x s + hasty_moves deal u (after x (step deal x s)) moves
hasty_moves deal u x (LetsGo v ∷ moves) = hasty_moves deal u (let_go x v (voter_at x.voters v).held) moves

-- the first of these rounds begins in w, and the two before it began in v and in u
abbrev pub hasty_among_from : Dealing → WorldState → WorldState → WorldState → List (List Move) → ℕ
hasty_among_from deal u v w [] = 0
hasty_among_from deal u v w (r ∷ rs) = hasty_moves deal u w r + hasty_among_from deal v w (moved deal r w) rs

-- how many withdrawals in these rounds are hasty, as `hasty_in` counts it
abbrev pub hasty_among : Dealing → WorldState → List (List Move) → ℕ
hasty_among deal w rounds = hasty_among_from deal w w w rounds
