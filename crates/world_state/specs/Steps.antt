-- The steps of a world: of the clients and the voters of one lock, with every message that was ever
-- sent. A message may arrive at any time and any number of times; one that never arrives is lost
-- (Maekawa, ACM TOCS 3(2), 1985, over a network that loses, repeats and delays). If there are two
-- plans, the first may be exchanged for the second at any time.
use Rattle.std.specs.Prelude.{ℕ, ◌≡◌, ◌==◌, nat_lt, Bool, true, false, List, [], ◌∷◌, ◌++◌, map, length, Option, Some, None, is_some, option_map, unwrap_or, Result, Ok, Err, slice_get, slice_index_or, slice_set}
use Rattle.message.specs.declared.message.ToVoter.{ToVoter}
use Rattle.message.specs.declared.message.Message.{Message}
use Rattle.message.specs.declared.message.Message.TheVariants as kinds
use Rattle.voter.specs.declared.fault.VoterFault.TheVariants.{GrantsSpent}
use Rattle.voter.specs.declared.state.VoterState.{VoterState}
use Rattle.voter.specs.Steps as voter
use Rattle.requester.specs.declared.fault.ClientFault.{ClientFault}
use Rattle.requester.specs.declared.state.ClientState.{ClientState}
use Rattle.requester.specs.declared.state.Seen.{Seen}
use Rattle.requester.specs.declared.state.Seen.TheVariants.{Nothing, Entered, Left}
use Rattle.requester.specs.Steps as client
use Rattle.quorum_set.specs.declared.bridge.Side.{Side}
use Rattle.quorum_set.specs.declared.bridge.Side.TheVariants.{First, Second}
use Rattle.certificate.specs.Certificates.{Weighted}
use Rattle.dealer.specs.Cycles.{quorum_of_ticket}
use Rattle.dealer.specs.Plans.{PlanPair}
use Rattle.world_state.specs.declared.fault.WorldFault.{WorldFault}
use Rattle.world_state.specs.declared.fault.WorldFault.TheVariants as faults
use Rattle.world_state.specs.declared.step.Step.{Step}
use Rattle.world_state.specs.declared.step.Step.TheVariants.{Ask, Deliver, Leave, GiveUp, RemindClient, RemindVoter, Exchange}
use Rattle.world_state.specs.declared.step.Event.{Event}
use Rattle.world_state.specs.declared.step.Stepped.{Stepped}

-- clients, voters, and everything that happened
pub record WorldState : Type 0 where
  pub clients : List ClientState
  pub voters : List VoterState
  -- every message that was ever sent, in order; its place is its number
  pub sent : List Message
  -- who drew a ticket of the first plan, and which one, in order
  pub draws : List (ℕ × ℕ)
  -- the same of the second plan
  pub draws2 : List (ℕ × ℕ)
  -- the plan in use
  pub side : Side
  -- who entered and who left, in order
  pub visible : List Event

-- the client with this number, or a new one past the end of the list
unfoldable pub client_at : List ClientState → ℕ → ClientState
client_at clients c = slice_index_or clients c (client.start 0 1)

-- the voter with this number, or a new one past the end of the list
unfoldable pub voter_at : List VoterState → ℕ → VoterState
voter_at voters v = slice_index_or voters v (voter.start 0 1)

-- how many messages a step sent, whether a client entered or left, and the world afterwards
pub record Outcome : Type 0 where
  pub sent : ℕ
  pub seen : Seen
  pub state : WorldState

-- the event, if the client entered or left
abbrev pub events : ℕ → Seen → List Event
events c Nothing = []
events c Entered = record { client = c; entered = true } ∷ []
events c Left = record { client = c; entered = false } ∷ []

-- the outcome of a client's step
abbrev pub client_did : WorldState → ℕ → client.Outcome → Outcome
client_did w c o = record {
  sent = length o.out;
  seen = o.seen;
  state = record w {
    clients = slice_set w.clients c o.state;
    sent = w.sent ++ map kinds.ToVoter o.out;
    visible = w.visible ++ events c o.seen;
  };
}

-- the outcome of a voter's step
abbrev pub voter_did : WorldState → ℕ → voter.Outcome → Outcome
voter_did w v o = record {
  sent = length o.replies;
  seen = Nothing;
  state = record w {
    voters = slice_set w.voters v o.state;
    sent = w.sent ++ map kinds.ToClient o.replies;
  };
}

-- the outcome of a client's step, or its fault
abbrev pub after_client : WorldState → ℕ → Result client.Outcome ClientFault → Result Outcome WorldFault
after_client w c (Ok o) = Ok (client_did w c o)
after_client w c (Err fault) = Err (faults.Client fault)

-- the outcome of a voter's step, or its one fault: that its grants are spent
abbrev pub after_voter : WorldState → ℕ → Option voter.Outcome → Result Outcome WorldFault
after_voter w v (Some o) = Ok (voter_did w v o)
after_voter w v None = Err (faults.Voter GrantsSpent)

-- the client makes a step with this cause
abbrev pub act : WorldState → ℕ → client.Cause → Result Outcome WorldFault
act w c cause = after_client w c (client.step (client_at w.clients c) cause)

-- the quorum that each ticket of the first plan stands for, and each of the second, if there is one
pub record Dealing : Type 0 where
  pub first : ℕ → List ℕ
  pub second : Option (ℕ → List ℕ)

-- The quorum that a ticket of this plan stands for. If there is no second plan, its tickets are
-- those of the first.
abbrev pub quorum_dealt : Dealing → Side → ℕ → List ℕ
quorum_dealt deal First = deal.first
quorum_dealt deal Second = unwrap_or deal.second deal.first

-- the next ticket of a plan; the tickets of each are drawn from 0 on
abbrev pub ticket_of : Side → WorldState → ℕ
ticket_of First w = length w.draws
ticket_of Second w = length w.draws2

-- the client draws the next ticket of a plan
abbrev pub draw_of : Side → WorldState → ℕ → WorldState
draw_of First w c = record w { draws = w.draws ++ (c, length w.draws) ∷ [] }
draw_of Second w c = record w { draws2 = w.draws2 ++ (c, length w.draws2) ∷ [] }

-- the next ticket of the plan in use
abbrev pub next_ticket : WorldState → ℕ
next_ticket w = ticket_of w.side w

-- the client draws the next ticket of the plan in use
abbrev pub draw : WorldState → ℕ → WorldState
draw w c = draw_of w.side w c

-- the client draws a ticket and asks this quorum
abbrev pub ask : WorldState → ℕ → List ℕ → Result Outcome WorldFault
ask w c quorum = after_client (draw w c) c (client.step (client_at w.clients c) (client.Asks quorum))

-- the voter takes a message
abbrev pub vote : WorldState → ToVoter → Result Outcome WorldFault
vote w m = after_voter w m.voter (voter.step (voter_at w.voters m.voter) m)

-- the message arrives; a fault if there is none with this number
abbrev pub come : WorldState → ℕ → Option Message → Result Outcome WorldFault
come w k None = Err (faults.NoSuchMessage k)
come w k (Some (kinds.ToVoter m)) = vote w m
come w k (Some (kinds.ToClient m)) = act w m.client (client.Takes m)

-- messages are sent, and no client or voter changes
abbrev pub say : WorldState → List Message → Outcome
say w more = record { sent = length more; seen = Nothing; state = record w { sent = w.sent ++ more } }

-- Later asks draw tickets of the second plan. A fault if there are not two plans, or the second is
-- in use already.
abbrev pub exchange : Bool → Side → WorldState → Result Outcome WorldFault
exchange true First w = Ok (record { sent = 0; seen = Nothing; state = record w { side = Second } })
exchange true Second w = Err faults.NoSecondPlan
exchange false side w = Err faults.NoSecondPlan

-- `next` if the number is a client's, else the fault
abbrev pub if_client : Bool → ℕ → Result Outcome WorldFault → Result Outcome WorldFault
if_client true c next = next
if_client false c next = Err (faults.NoSuchClient c)

-- `next` if the number is a voter's, else the fault
abbrev pub if_voter : Bool → ℕ → Result Outcome WorldFault → Result Outcome WorldFault
if_voter true v next = next
if_voter false v next = Err (faults.NoSuchVoter v)

-- One step: its outcome, or the fault with which it is refused. `deal` gives the quorum of each
-- ticket.
unfoldable pub step : Dealing → WorldState → Step → Result Outcome WorldFault
step deal w (Ask c) = if_client (nat_lt c (length w.clients)) c (ask w c (quorum_dealt deal w.side (next_ticket w)))
step deal w (Deliver k) = come w k (slice_get w.sent k)
step deal w (Leave c) = if_client (nat_lt c (length w.clients)) c (act w c client.Leaves)
step deal w (GiveUp c) = if_client (nat_lt c (length w.clients)) c (act w c client.GivesUp)
step deal w (RemindClient c) =
    if_client (nat_lt c (length w.clients)) c (Ok (say w (map kinds.ToVoter (client.remind (client_at w.clients c)))))
step deal w (RemindVoter v) =
    if_voter (nat_lt v (length w.voters)) v (Ok (say w (map kinds.ToClient (voter.remind (voter_at w.voters v)))))
step deal w Exchange = exchange (is_some deal.second) w.side w

-- no message was sent, and no client entered or left
abbrev pub is_silent : ℕ → Seen → Bool
is_silent sent Nothing = sent == 0
is_silent sent Entered = false
is_silent sent Left = false

-- What a step adds: messages after those sent before, and the event, if any, of one client after
-- those seen before.
pub record Adds (w : WorldState) (o : Outcome) : Type 0 where
  pub more : List Message
  pub sent : o.state.sent ≡ w.sent ++ more
  pub count : o.sent ≡ length more
  pub client : ℕ
  pub visible : o.state.visible ≡ w.visible ++ events client o.seen

-- What the code returns

-- the outcome from what the code returns of a step, and the world afterwards
abbrev pub outcome_of : Stepped → WorldState → Outcome
outcome_of s w = record { sent = s.sent; seen = s.seen; state = w }

-- a world and its plans, which give the quorum of each ticket
pub record Planned : Type 0 where
  pub plans : PlanPair
  pub state : WorldState

-- the quorum that a ticket of a plan stands for
abbrev pub quorum_by : Weighted → ℕ → List ℕ
quorum_by plan ticket = slice_index_or plan.system.quorums (quorum_of_ticket plan ticket) []

-- the quorum that each ticket of these plans stands for
abbrev pub dealing_of : PlanPair → Dealing
dealing_of p = record { first = quorum_by p.first; second = option_map quorum_by p.second }

-- one step of a world with its plans
abbrev pub step_of : Planned → Step → Result Outcome WorldFault
step_of w s = step (dealing_of w.plans) w.state s

-- the fault is the step's own, or out of memory if the step has none
abbrev pub Refuses : Result Outcome WorldFault → WorldFault → Type 0
Refuses (Ok o) fault = fault ≡ faults.OutOfMemory
Refuses (Err why) fault = fault ≡ why

-- the code returns the wanted outcome, or a fault that refuses it, with nothing changed
abbrev pub Does : Result Outcome WorldFault → WorldState → Result Stepped WorldFault → WorldState → Type 0
Does wanted old (Ok s) new = wanted ≡ Ok (outcome_of s new)
Does wanted old (Err fault) new = Refuses wanted fault × (new ≡ old)
