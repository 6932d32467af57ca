-- A voter's process of many locks: a row for each number of a client, and for each lock a node of `voter_node`.
use Rattle.std.specs.Prelude.{ℕ, ◌≡◌, ◌==◌, Bool, true, false, ◌&&◌, List, [], ◌∷◌, ◌++◌, Option, Some, None, if◌then◌else◌, not}
use Rattle.std.specs.List.{filter}
use Rattle.message.specs.declared.message.ToVoter.{ToVoter}
use Rattle.message.specs.declared.message.VoterBody.{VoterBody}
use Rattle.message.specs.declared.message.VoterBody.TheVariants as asks
use Rattle.sessions.specs.Rows.{Row}
use Rattle.session_rows.specs.Runs as rows
use Rattle.voter.specs.declared.state.VoterState.{VoterState}
use Rattle.voter.specs.Leases.{evict}
use Rattle.voter.specs.Steps.{Outcome, remind, step}
use Rattle.voter.specs.VoterContract.{IsEntry}
use Rattle.voter_node.specs.Lives.{Fate, HasLimit, IsReborn, IsSkipped, Meets, becomes}
use Rattle.voter_node.specs.Nodes as nodes
use Rattle.lock_node.specs.Letters.{Letter, letters_of, may_say}

-- the row of each number, live and saved, the node of each lock, and the letters that wait for the next save
pub record LockNode : Type 0 where
  pub rows : ℕ → Row
  pub saved : ℕ → Row
  pub locks : ℕ → nodes.Node
  pub outbox : List Letter

-- what may happen to a voter's process
pub data Event : Type 0 where
  -- a call of the row of a number: number, call
  Calls : ℕ → rows.Call → Event
  -- a session says something about a lock, under an epoch: lock, session, epoch, message
  Speaks : ℕ → ℕ → ℕ → ToVoter → Event
  -- the voter lets the grant of a lock with this number go, if it is the current one: lock, grant
  LetsGo : ℕ → ℕ → Event
  -- the voter reminds the holder of a lock
  Reminds : ℕ → Event
  -- the voter of a lock may give grants up to another number, no less than it gave: lock, limit
  Extends : ℕ → ℕ → Event
  -- it skips the numbers of grants up to this one: lock, number
  Skips : ℕ → ℕ → Event
  -- a lock is forgotten, and made anew above all grants that its voter saved: lock, grants, limit
  IsForgotten : ℕ → ℕ → ℕ → Event
  -- all that changed is saved, in one write, and the letters leave
  Saves : Event
  -- the process crashes, and restarts from the least of what was saved
  Crashes : Event

-- a function that has this value at one place
abbrev pub set : {X : Type 0} → (ℕ → X) → ℕ → X → ℕ → X
set f place value other = if place == other then value else f other

-- what the voter of a lock says by an event, and its state then, unless it refuses
abbrev pub outcome_at : nodes.Node → nodes.Event → Option Outcome
outcome_at n (nodes.Takes m) = step n.live m
outcome_at n (nodes.Evicts grant) = evict n.live grant
outcome_at n nodes.Reminds = Some (record { replies = remind n.live; state = n.live })
outcome_at n nodes.IsSaved = None
outcome_at n nodes.Restarts = None
outcome_at n nodes.Forgets = None

-- the letters with what it says, if its node has room for that
abbrev pub letters_by : Bool → (ℕ → Row) → ℕ → Option Outcome → List Letter
letters_by true rows lock (Some o) = letters_of rows lock o.state.held o.replies
letters_by true rows lock None = []
letters_by false rows lock o = []

-- the node of one lock becomes another one
abbrev pub alters : LockNode → ℕ → Fate → LockNode
alters n lock fate = record { rows = n.rows; saved = n.saved; locks = set n.locks lock (becomes (n.locks lock) fate); outbox = n.outbox }

-- the node of one lock becomes another one, and what it said is lost
abbrev pub forgets : LockNode → ℕ → Fate → LockNode
forgets n lock fate = record {
  rows = n.rows;
  saved = n.saved;
  locks = set n.locks lock (becomes (n.locks lock) fate);
  outbox = filter (λ l. not (lock == l.lock)) n.outbox;
}

-- the node of one lock makes a step
abbrev pub moves : LockNode → ℕ → nodes.Event → LockNode
moves n lock e = record {
  rows = n.rows;
  saved = n.saved;
  locks = set n.locks lock (nodes.after (n.locks lock) (nodes.node_step (n.locks lock) e));
  outbox = n.outbox ++ letters_by (nodes.has_room (n.locks lock)) n.rows lock (outcome_at (n.locks lock) e);
}

-- the node of each lock makes this step
abbrev pub all_move : (ℕ → nodes.Node) → nodes.Event → ℕ → nodes.Node
all_move locks e lock = nodes.after (locks lock) (nodes.node_step (locks lock) e)

-- the process after an event
abbrev pub happens : LockNode → Event → LockNode
happens n (Calls number call) =
    record { rows = set n.rows number (rows.after_call (n.rows number) call); saved = n.saved; locks = n.locks; outbox = n.outbox }
happens n (Speaks lock session epoch m) =
    if may_say (n.rows m.client) session epoch m.body then moves n lock (nodes.Takes m) else n
happens n (LetsGo lock grant) = moves n lock (nodes.Evicts grant)
happens n (Reminds lock) = moves n lock nodes.Reminds
happens n (Extends lock limit) = alters n lock (HasLimit limit)
happens n (Skips lock above) = alters n lock (IsSkipped above)
happens n (IsForgotten lock above limit) = forgets n lock (IsReborn above limit)
happens n Saves = record { rows = n.rows; saved = n.rows; locks = all_move n.locks nodes.IsSaved; outbox = [] }
happens n Crashes = record { rows = n.saved; saved = n.saved; locks = all_move n.locks nodes.Forgets; outbox = [] }

-- the letters that leave by an event
abbrev pub leaves : LockNode → Event → List Letter
leaves n (Calls number call) = []
leaves n (Speaks lock session epoch m) = []
leaves n (LetsGo lock grant) = []
leaves n (Reminds lock) = []
leaves n (Extends lock limit) = []
leaves n (Skips lock above) = []
leaves n (IsForgotten lock above limit) = []
leaves n Saves = n.outbox
leaves n Crashes = []

-- the process after these events, in order
abbrev pub all_happen : LockNode → List Event → LockNode
all_happen n [] = n
all_happen n (e ∷ es) = all_happen (happens n e) es

-- all letters that leave by these events, in order
abbrev pub all_leave : LockNode → List Event → List Letter
all_leave n [] = []
all_leave n (e ∷ es) = leaves n e ++ all_leave (happens n e) es

-- A process begins: its rows are saved, no letter waits, and no vote is granted or waited for.
pub record Begins (n : LockNode) : Type 0 where
  pub rows : (number : ℕ) → n.saved number ≡ n.rows number
  pub nobody : (lock client stamp : ℕ) → IsEntry (n.locks lock).live client stamp → ⊥
  pub saved : (lock : ℕ) → (n.locks lock).saved ≡ (n.locks lock).live
  pub waits : n.outbox ≡ []

-- ---- the same, number by number and lock by lock

-- what a session says is a REQUEST under a stamp
abbrev pub request_turn : ℕ → ℕ → VoterBody → List rows.Turn
request_turn session epoch (asks.Request stamp) = rows.Requests session epoch stamp ∷ []
request_turn session epoch (asks.Relinquish grant) = []
request_turn session epoch (asks.Release stamp) = []

-- what an event is to the row of a number, with the REQUESTs for one lock: lock, number
abbrev pub turn_of : ℕ → ℕ → Event → List rows.Turn
turn_of lock number (Calls other call) = if other == number then rows.Calls call ∷ [] else []
turn_of lock number (Speaks other session epoch m) = if (m.client == number) && (other == lock) then request_turn session epoch m.body else []
turn_of lock number (LetsGo other grant) = []
turn_of lock number (Reminds other) = []
turn_of lock number (Extends other limit) = []
turn_of lock number (Skips other above) = []
turn_of lock number (IsForgotten other above limit) = []
turn_of lock number Saves = rows.Saves ∷ []
turn_of lock number Crashes = rows.Crashes ∷ []

abbrev pub turns_of : ℕ → ℕ → List Event → List rows.Turn
turns_of lock number [] = []
turns_of lock number (e ∷ es) = turn_of lock number e ++ turns_of lock number es

-- what an event is to the node of a lock
abbrev pub fate_at : ℕ → LockNode → Event → List Fate
fate_at lock n (Calls number call) = []
fate_at lock n (Speaks other session epoch m) =
    if may_say (n.rows m.client) session epoch m.body then (if other == lock then Meets (nodes.Takes m) ∷ [] else []) else []
fate_at lock n (LetsGo other grant) = if other == lock then Meets (nodes.Evicts grant) ∷ [] else []
fate_at lock n (Reminds other) = if other == lock then Meets nodes.Reminds ∷ [] else []
fate_at lock n (Extends other limit) = if other == lock then HasLimit limit ∷ [] else []
fate_at lock n (Skips other above) = if other == lock then IsSkipped above ∷ [] else []
fate_at lock n (IsForgotten other above limit) = if other == lock then IsReborn above limit ∷ [] else []
fate_at lock n Saves = Meets nodes.IsSaved ∷ []
fate_at lock n Crashes = Meets nodes.Forgets ∷ []

-- the life of the node of a lock
abbrev pub life_at : ℕ → LockNode → List Event → List Fate
life_at lock n [] = []
life_at lock n (e ∷ es) = fate_at lock n e ++ life_at lock (happens n e) es
