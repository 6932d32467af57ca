-- Worlds whose clients and voters crash and restart. Beside its live state, each client and each
-- voter has a saved state. A step that sends a message, or lets a client enter or leave, saves the
-- state of the client or voter that made it, before any message is sent. Other steps need not be
-- saved. A client or voter that restarts has its saved state again. All but the least of a saved state
-- may be lost.
use Rattle.std.specs.Prelude.{ℕ, ◌≡◌, ◌<◌, ◌≤◌, nat_lt, Bool, true, false, List, [], ◌∷◌, ◌++◌, Option, Some, None, Result, Ok, Err, slice_get, slice_index, slice_set, length}
use Rattle.numbers.specs.Bounds.{max_voters}
use Rattle.message.specs.declared.message.Message.{Message}
use Rattle.message.specs.declared.message.Message.TheVariants as kinds
use Rattle.voter.specs.declared.state.VoterState.{VoterState}
use Rattle.voter.specs.Saved.{least_voter}
use Rattle.requester.specs.declared.state.ClientState.{ClientState}
use Rattle.requester.specs.declared.state.Seen.{Seen}
use Rattle.requester.specs.declared.state.Seen.TheVariants.{Nothing, Entered, Left}
use Rattle.requester.specs.Saved.{least_client}
use Rattle.requester.specs.Words.{holds_under, is_inside}
use Rattle.world_state.specs.declared.fault.WorldFault.{WorldFault}
use Rattle.world_state.specs.declared.step.Step.{Step}
use Rattle.world_state.specs.declared.step.Step.TheVariants.{Ask, Deliver, Leave, GiveUp, RemindClient, RemindVoter, Exchange}
use Rattle.world.specs.Runs.{start}
use Rattle.world_state.specs.Steps.{WorldState, Outcome, Dealing, client_at, voter_at, events, is_silent, step}

-- a client, a voter, or nobody
pub data Node : Type 0 where
  OneClient : ℕ → Node
  OneVoter : ℕ → Node
  Nobody : Node

-- a world, and the saved state of each client and each voter
pub record Saved : Type 0 where
  pub live : WorldState
  pub clients : List ClientState
  pub voters : List VoterState

-- what may happen, at any time
pub data Happening : Type 0 where
  -- a step of the world
  Goes : Step → Happening
  -- a client or voter saves its state
  Saves : Node → Happening
  -- all but the least of a saved state is lost
  Forgets : Node → Happening
  -- a client or voter crashes, and restarts from its saved state
  Restarts : Node → Happening

-- who receives a message
abbrev pub receiver : Option Message → Node
receiver None = Nobody
receiver (Some (kinds.ToVoter m)) = OneVoter m.voter
receiver (Some (kinds.ToClient m)) = OneClient m.client

-- who makes a step
abbrev pub maker : WorldState → Step → Node
maker w (Ask c) = OneClient c
maker w (Deliver k) = receiver (slice_get w.sent k)
maker w (Leave c) = OneClient c
maker w (GiveUp c) = OneClient c
maker w (RemindClient c) = OneClient c
maker w (RemindVoter v) = OneVoter v
maker w Exchange = Nobody

-- the live state of a client or voter is saved
abbrev pub save : Node → Saved → Saved
save (OneClient c) s = record s { clients = slice_set s.clients c (client_at s.live.clients c) }
save (OneVoter v) s = record s { voters = slice_set s.voters v (voter_at s.live.voters v) }
save Nobody s = s

-- all but the least of a saved state is lost
abbrev pub forget : Node → Saved → Saved
forget (OneClient c) s = record s { clients = slice_set s.clients c (least_client (client_at s.clients c)) }
forget (OneVoter v) s = record s { voters = slice_set s.voters v (least_voter (voter_at s.voters v)) }
forget Nobody s = s

-- what is seen of a crash, by whether the client was inside before it, and whether it is afterwards
abbrev pub crash_seen : Bool → Bool → Seen
crash_seen true true = Nothing
crash_seen true false = Left
crash_seen false true = Entered
crash_seen false false = Nothing

-- the live client has this state
abbrev pub come_back : Saved → ℕ → ClientState → Saved
come_back s c x = record s {
  live = record s.live {
    clients = slice_set s.live.clients c x;
    visible = s.live.visible ++ events c (crash_seen (is_inside (client_at s.live.clients c).phase) (is_inside x.phase));
  };
}

-- only a client of this world restarts
abbrev pub if_there : Bool → Saved → Saved → Saved
if_there true t s = t
if_there false t s = s

-- a client or voter crashes, and restarts from its saved state
abbrev pub restart : Node → Saved → Saved
restart (OneClient c) s = if_there (nat_lt c (length s.live.clients)) (come_back s c (client_at s.clients c)) s
restart (OneVoter v) s = record s { live = record s.live { voters = slice_set s.live.voters v (voter_at s.voters v) } }
restart Nobody s = s

-- the live state is saved, unless the step was silent
abbrev pub save_unless : Bool → Node → Saved → Saved
save_unless true who s = s
save_unless false who s = save who s

-- Save, then send: a step that isn't silent is saved before its messages can arrive. A refused step
-- changes nothing.
abbrev pub save_and_send : Saved → Node → Result Outcome WorldFault → Saved
save_and_send s who (Ok o) = save_unless (is_silent o.sent o.seen) who (record s { live = o.state })
save_and_send s who (Err fault) = s

-- the world after one of these happens
abbrev pub happens : Dealing → Saved → Happening → Saved
happens deal s (Goes st) = save_and_send s (maker s.live st) (step deal s.live st)
happens deal s (Saves who) = save who s
happens deal s (Forgets who) = forget who s
happens deal s (Restarts who) = restart who s

-- the world after all of these happen, in order
abbrev pub all_happen : Dealing → List Happening → Saved → Saved
all_happen deal [] s = s
all_happen deal (h ∷ hs) s = all_happen deal hs (happens deal s h)

-- a new world; the saved state of each client and each voter is its first state
abbrev pub begin : ℕ → ℕ → ℕ → Saved
begin voters clients limit = record {
  live = start voters clients limit;
  clients = (start voters clients limit).clients;
  voters = (start voters clients limit).voters;
}

-- this client has the vote of a voter, by the grant with this number
abbrev pub HasVote : Saved → ℕ → ℕ → ℕ → Type 0
HasVote s client voter grant = holds_under (client_at s.live.clients client) voter grant ≡ true

-- the stamp of a client's last request
abbrev pub stamp_of : Saved → ℕ → ℕ
stamp_of s client = (client_at s.live.clients client).stamp

-- this client is inside
abbrev pub IsIn : Saved → ℕ → Type 0
IsIn s client = is_inside (client_at s.live.clients client).phase ≡ true

-- What a client shows to a guard: for each voter the number of the grant by which it has the vote, 0
-- for none. Of a client that is inside this is its pass.
abbrev pub pass_of : Saved → ℕ → List ℕ
pass_of s client = (client_at s.live.clients client).held

-- a client at one time, and a client at another: it is the same client, in the same request
abbrev pub IsSameRequest : Saved → ℕ → Saved → ℕ → Type 0
IsSameRequest s first t second = (first ≡ second) × (stamp_of s first ≡ stamp_of t second)

-- both passes have a grant of some voter, and the second one's is newer
abbrev pub IsNewer : List ℕ → List ℕ → Type 0
IsNewer first second = (voter : ℕ) × (voter < max_voters) × (1 ≤ slice_index first voter) × (slice_index first voter < slice_index second voter)
