-- Ways in: lists of reminders, and of the messages that are sent after them, by which a client enters.
use Rattle.std.specs.Prelude.{ℕ, ◌≡◌, ◌≢◌, ◌<◌, ◌≤◌, ◌+◌, true, false, List, ◌++◌, length}
use Rattle.std.specs.List.{AllByRecursion}
use Rattle.requester.specs.declared.state.Seen.TheVariants.{Entered}
use Rattle.requester.specs.Words.{is_asking, is_idle, is_inside}
use Rattle.world_state.specs.declared.step.Event.{Event}
use Rattle.world_state.specs.declared.step.Step.{Step}
use Rattle.world_state.specs.declared.step.Step.TheVariants.{Ask, Deliver, Leave, GiveUp, RemindClient, RemindVoter, Exchange}
use Rattle.world.specs.Runs.{run_of}
use Rattle.world_state.specs.Steps.{WorldState, Dealing, client_at, events, voter_at}
use Rattle.world.specs.Visible.{entries_of}

-- a reminder, or the arrival of a message that is not among the first `sent` ones
abbrev pub Helps : ℕ → Step → Type 0
Helps sent (Ask c) = ⊥
Helps sent (Deliver k) = sent ≤ k
Helps sent (Leave c) = ⊥
Helps sent (GiveUp c) = ⊥
Helps sent (RemindClient c) = Unit {0}
Helps sent (RemindVoter v) = Unit {0}
Helps sent Exchange = ⊥

-- these steps help, and let this client in and nobody else
pub record IsWayIn (deal : Dealing) (w : WorldState) (c : ℕ) (steps : List Step) : Type 0 where
  pub helps : AllByRecursion (Helps (length w.sent)) steps
  pub enters : (run_of deal steps w).visible ≡ w.visible ++ events c Entered

-- the client asks, and all others are idle
pub record AsksAlone (w : WorldState) (c : ℕ) : Type 0 where
  pub client : c < length w.clients
  pub asks : is_asking (client_at w.clients c).phase ≡ true
  pub others : (d : ℕ) → d ≢ c → is_idle (client_at w.clients d).phase ≡ true

-- a client of the world asks
pub record Asks (w : WorldState) (c : ℕ) : Type 0 where
  pub client : c < length w.clients
  pub asks : is_asking (client_at w.clients c).phase ≡ true

-- nobody is inside
abbrev pub IsFree : WorldState → Type 0
IsFree w = (c : ℕ) → is_inside (client_at w.clients c).phase ≡ false

-- each voter can give n more grants
abbrev pub HasGrants : ℕ → WorldState → Type 0
HasGrants n w = (v : ℕ) → v < length w.voters → (voter_at w.voters v).granted + n ≤ (voter_at w.voters v).limit

-- a step that helps, or a client leaves
abbrev pub Serves : ℕ → Step → Type 0
Serves sent (Ask c) = ⊥
Serves sent (Deliver k) = sent ≤ k
Serves sent (Leave c) = Unit {0}
Serves sent (GiveUp c) = ⊥
Serves sent (RemindClient c) = Unit {0}
Serves sent (RemindVoter v) = Unit {0}
Serves sent Exchange = ⊥

-- these steps serve, and the client enters by them
pub record GetsIn (deal : Dealing) (w : WorldState) (c : ℕ) (steps : List Step) : Type 0 where
  pub serves : AllByRecursion (Serves (length w.sent)) steps
  pub more : List Event
  pub visible : (run_of deal steps w).visible ≡ w.visible ++ more
  pub enters : 1 ≤ entries_of c more
