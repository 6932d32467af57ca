-- A host that saves less: letters of a lock may leave with no save while its vote has the same least as on the disk.
--
-- What is on the disk is what the process has as saved: a row for each number, and for each lock a vote. A save is of all that
-- changed. Nothing is asked of the rows, as a letter tells of none.
--
-- A host may hold a letter that may leave for longer, or lose it: then less leaves than here. What a crash undoes before anything
-- tells of it need not befall here, as that a lock is forgotten. A number that is skipped, or a limit, may befall as late as the
-- vote's next step, as no reminder tells of it.
use Rattle.std.specs.Prelude.{ℕ, ◌≡◌, ◌==◌, List, [], ◌∷◌, ◌++◌, if◌then◌else◌, not}
use Rattle.std.specs.List.{filter}
use Rattle.voter_node.specs.LeftOut.{HaveSameLeast}
use Rattle.voter_node.specs.Lives.{Fate, Meets}
use Rattle.voter_node.specs.Nodes as nodes
use Rattle.lock_node.specs.Letters.{Letter}
use Rattle.lock_node.specs.Locks.{Event, LockNode, fate_at, happens, leaves, set}

-- what a host does
pub data HostTurn : Type 0 where
  -- an event of its process; if that is a save, all letters leave
  Befalls : Event → HostTurn
  -- the letters of a lock leave, and nothing is saved: lock
  HandsOut : ℕ → HostTurn

-- nothing of a node waits any more
abbrev pub handed_out : nodes.Node → nodes.Node
handed_out n = record { live = n.live; saved = n.saved; outbox = [] }

-- the process after a turn
abbrev pub host_does : LockNode → HostTurn → LockNode
host_does n (Befalls e) = happens n e
host_does n (HandsOut lock) = record {
  rows = n.rows;
  saved = n.saved;
  locks = set n.locks lock (handed_out (n.locks lock));
  outbox = filter (λ l. not (lock == l.lock)) n.outbox;
}

-- the letters that leave by a turn
abbrev pub host_sends : LockNode → HostTurn → List Letter
host_sends n (Befalls e) = leaves n e
host_sends n (HandsOut lock) = filter (λ l. lock == l.lock) n.outbox

-- A host may do so. It may leave a save out if the vote has the same least as on the disk: the grant, the number of grants,
-- and its number and its limit.
abbrev pub MayLeaveOut : LockNode → HostTurn → Type 0
MayLeaveOut n (Befalls e) = Unit {0}
MayLeaveOut n (HandsOut lock) = HaveSameLeast (n.locks lock).saved (n.locks lock).live

-- the process after these turns, in order
abbrev pub host_after : LockNode → List HostTurn → LockNode
host_after n [] = n
host_after n (t ∷ ts) = host_after (host_does n t) ts

-- all letters that leave by these turns, in order
abbrev pub host_sent : LockNode → List HostTurn → List Letter
host_sent n [] = []
host_sent n (t ∷ ts) = host_sends n t ++ host_sent (host_does n t) ts

-- a host may do all of this, in order
abbrev pub LeaveOut : LockNode → List HostTurn → Type 0
LeaveOut n [] = Unit {0}
LeaveOut n (t ∷ ts) = MayLeaveOut n t × LeaveOut (host_does n t) ts

-- each of these turns leaves the least of the vote of a lock as it was
abbrev pub KeepLeast : ℕ → LockNode → List HostTurn → Type 0
KeepLeast lock n [] = Unit {0}
KeepLeast lock n (t ∷ ts) = HaveSameLeast (n.locks lock).live ((host_does n t).locks lock).live × KeepLeast lock (host_does n t) ts

-- what happens to the process by these turns: only what is saved counts as a save
abbrev pub events_in : List HostTurn → List Event
events_in [] = []
events_in (Befalls e ∷ ts) = e ∷ events_in ts
events_in (HandsOut lock ∷ ts) = events_in ts

-- what a turn is to the node of a lock: letters that leave with no save are a save of this lock alone
abbrev pub fate_by : ℕ → LockNode → HostTurn → List Fate
fate_by lock n (Befalls e) = fate_at lock n e
fate_by lock n (HandsOut other) = if other == lock then Meets nodes.IsSaved ∷ [] else []

-- the life of the node of a lock
abbrev pub life_by : ℕ → LockNode → List HostTurn → List Fate
life_by lock n [] = []
life_by lock n (t ∷ ts) = fate_by lock n t ++ life_by lock (host_does n t) ts

-- The node of a lock is as this one, whose saves were not left out: the same vote, with the same messages that wait; and what is
-- on the disk has the same least. So a crash leads to the same vote.
pub record IsLike (at other : nodes.Node) : Type 0 where
  pub live : at.live ≡ other.live
  pub outbox : at.outbox ≡ other.outbox
  pub disk : HaveSameLeast at.saved other.saved
