-- A voter's process for one lock: its voter, what of it is saved, and what it has to send.
use Rattle.std.specs.Prelude.{ℕ, ◌+◌, nat_le, Bool, true, false, List, [], ◌∷◌, ◌++◌, length, Option, None, Some, Result, Ok, Err}
use Rattle.message.specs.declared.message.ToClient.{ToClient}
use Rattle.message.specs.declared.message.ToVoter.{ToVoter}
use Rattle.voter.specs.declared.state.VoterState.{VoterState}
use Rattle.voter.specs.Leases.{evict}
use Rattle.voter.specs.Saved.{least_voter}
use Rattle.voter.specs.Steps.{Outcome, remind, step}
use Rattle.voter_node.specs.declared.fault.NodeFault.{NodeFault}
use Rattle.voter_node.specs.declared.fault.NodeFault.TheVariants.{SaveFirst, GrantsSpent}

-- the voter as it is, the voter as it was saved last, and the messages that wait for the next save
pub record Node : Type 0 where
  pub live : VoterState
  pub saved : VoterState
  pub outbox : List ToClient

-- what may happen to a node
pub data Event : Type 0 where
  -- the voter takes a message
  Takes : ToVoter → Event
  -- the voter lets the grant with this number go, if it is the current one
  Evicts : ℕ → Event
  -- the voter reminds the holder
  Reminds : Event
  -- the host says that the voter is saved as it is
  IsSaved : Event
  -- the node crashes, and its host restarts it from what was saved
  Restarts : Event
  -- the node crashes, and its host restarts it from the least of what was saved
  Forgets : Event

-- the node afterwards, and the messages that it gives out
pub record Turn : Type 0 where
  pub node : Node
  pub sends : List ToClient

-- a node of this voter, which is saved as it is; nothing waits
abbrev pub node_of : VoterState → Node
node_of v = record { live = v; saved = v; outbox = [] }

-- the node afterwards, with nothing given out
abbrev pub silent : Node → Turn
silent n = record { node = n; sends = [] }

-- the voter made a step, and its replies wait behind those that wait already
abbrev pub put : Node → Outcome → Node
put n o = record n { live = o.state; outbox = n.outbox ++ o.replies }

-- the node after its voter's step, which is refused if no grant is left
abbrev pub after_voter : Node → Option Outcome → Result Turn NodeFault
after_voter n (Some o) = Ok (silent (put n o))
after_voter n None = Err GrantsSpent

-- how many messages may wait
abbrev pub room : ℕ
room = 256

-- there is room for three messages more, the most that a step of a voter has
abbrev pub has_room : Node → Bool
has_room n = nat_le (length n.outbox + 3) room

-- `next` if there is room for it
abbrev pub if_room : Bool → Result Turn NodeFault → Result Turn NodeFault
if_room true next = next
if_room false next = Err SaveFirst

-- One event: the node afterwards and what it gives out, or the fault with which the event is refused.
-- Messages wait, and only a save gives them out, in the order of the steps.
unfoldable pub node_step : Node → Event → Result Turn NodeFault
node_step n (Takes m) = if_room (has_room n) (after_voter n (step n.live m))
node_step n (Evicts grant) = if_room (has_room n) (after_voter n (evict n.live grant))
node_step n Reminds = if_room (has_room n) (Ok (silent (put n (record { replies = remind n.live; state = n.live }))))
node_step n IsSaved = Ok (record { node = node_of n.live; sends = n.outbox })
node_step n Restarts = Ok (silent (node_of n.saved))
node_step n Forgets = Ok (silent (node_of (least_voter n.saved)))

-- the node after an event; a refused one changes nothing
abbrev pub after : Node → Result Turn NodeFault → Node
after n (Ok t) = t.node
after n (Err fault) = n

-- the node after these events, in order
abbrev pub run : Node → List Event → Node
run n [] = n
run n (e ∷ es) = run (after n (node_step n e)) es

-- what is given out; nothing by an event that is refused
abbrev pub sends_of : Result Turn NodeFault → List ToClient
sends_of (Ok t) = t.sends
sends_of (Err fault) = []

-- what a node gives out by these events, in order
abbrev pub gives : Node → List Event → List ToClient
gives n [] = []
gives n (e ∷ es) = sends_of (node_step n e) ++ gives (after n (node_step n e)) es
