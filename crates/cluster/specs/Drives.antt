-- Drives of members: what becomes of each, and which fault is returned.
use Rattle.std.specs.Prelude.{◌≡◌, ℕ, ◌+◌, ◌-◌, ◌*◌, ◌/◌, ◌<◌, ◌≤◌, ◌++◌, Bool, true, false, cond, is_some, min, nat_le, List, Option, None, Some, IfSome, All, Contains, length}
use Rattle.board.specs.declared.fault.BoardFault.TheVariants.{RegisterFull, OutOfMemory}
use Rattle.dealer.specs.declared.fault.DealFault.TheVariants.{QuotaSpent, OutOfMemory as NoRoom}
use Rattle.requester.specs.declared.fault.ClientFault.TheVariants.{StampsSpent}
use Rattle.requester.specs.Words.{is_idle}
use Rattle.run_outcome.specs.declared.fault.ClusterFault.{ClusterFault}
use Rattle.run_outcome.specs.declared.fault.ClusterFault.TheVariants as ends
use Rattle.quorum_set.specs.declared.bridge.Side.{Side}
use Rattle.quorum_set.specs.declared.bridge.Side.TheVariants.{First, Second}
use Rattle.clerks.specs.Clerks.{ClerksState, may_exchange, receipts_of, rest_of}
use Rattle.members.specs.Losses.{LosesAtLeast}
use Rattle.members.specs.Members.{MemberState}
use Rattle.cluster.specs.Patience.{most_starved}

-- the list afterwards is the list before and n more entries
abbrev pub HasMore : {A : Type 0} → ℕ → List A → List A → Type 0
HasMore {A} n before after = (more : List A) × (after ≡ before ++ more) × (length more ≡ n)

-- `on used side n`: how many tickets of the plan `side` n requests draw while the plan `used` is in use
abbrev pub on : Side → Side → ℕ → ℕ
on First First n = n
on First Second n = 0
on Second First n = 0
on Second Second n = n

-- the first `half` of n requests use the first plan, and the others the second
abbrev pub split : ℕ → ℕ → Side → ℕ
split half n First = min half n
split half n Second = n - half

abbrev pub draws_if : Bool → Side → ℕ → ℕ → Side → ℕ
draws_if true side half n plan = split half n plan
draws_if false side half n plan = on side plan n

-- How many tickets of a plan a member draws by n requests. If it may exchange the plan, it does so
-- after `half` of them. Otherwise all are of the plan in use.
abbrev pub draws_by : ClerksState → ℕ → ℕ → Side → ℕ
draws_by k half n plan = draws_if (may_exchange k) k.side half n plan

abbrev pub side_if : Bool → Side → ℕ → ℕ → Side
side_if true side half n = cond (nat_le half n) Second side
side_if false side half n = side

-- the plan that a member uses after n passes: if it may exchange the plan, it does so after `half`
abbrev pub side_after : ClerksState → ℕ → ℕ → Side
side_after k half n = side_if (may_exchange k) k.side half n

-- the same client, which drew this many more tickets of each plan and passed `passed` more times; no
-- lost message is forgotten
pub record Worked (drawn : Side → ℕ) (passed : ℕ) (before after : MemberState) : Type 0 where
  pub client : after.requester.id ≡ before.requester.id
  pub receipts : (plan : Side) → HasMore (drawn plan) (receipts_of before.clerks plan) (receipts_of after.clerks plan)
  pub rest : (plan : Side) → rest_of after.clerks plan + drawn plan ≡ rest_of before.clerks plan
  pub passes : HasMore passed before.seat.passes after.seat.passes
  pub second : is_some after.clerks.second ≡ is_some before.clerks.second
  pub lost : before.lost ≤ after.lost

-- the same client with the same tickets and pass numbers; no lost message is forgotten
pub record KeepsWork (before after : MemberState) : Type 0 where
  pub client : after.requester.id ≡ before.requester.id
  pub clerks : after.clerks ≡ before.clerks
  pub passes : after.seat.passes ≡ before.seat.passes
  pub fault : after.fault ≡ before.fault
  pub lost : before.lost ≤ after.lost

-- The member is idle again. It drew one ticket for each of `passes` passes, and made each of them.
-- If there is another plan, it exchanged the plan after half of them, rounded down, and uses the
-- second plan now. Nothing ended its work early.
pub record HasServed (passes : ℕ) (before after : MemberState) : Type 0 where
  pub worked : Worked (draws_by before.clerks (passes / 2) passes) passes before after
  pub side : after.clerks.side ≡ side_after before.clerks (passes / 2) passes
  pub idle : is_idle after.requester.phase ≡ true
  pub fault : after.fault ≡ None

-- What ends the work of this client early, if it had `tickets` tickets of the plan in use and passed
-- `passed` times by that plan. All except the first two need a ticket.
-- - No stamp is left.
-- - It passed once for each ticket.
-- - The register is at its limit.
-- - Memory ran out, for a receipt, a pass number or messages.
-- - Its turns are spent.
abbrev pub EndsWork : ℕ → ℕ → ℕ → ClusterFault → Type 0
EndsWork client tickets passed (ends.Client StampsSpent) = Unit {0}
EndsWork client tickets passed (ends.Deal QuotaSpent) = tickets ≡ passed
EndsWork client tickets passed (ends.Deal NoRoom) = passed < tickets
EndsWork client tickets passed (ends.Board RegisterFull) = passed < tickets
EndsWork client tickets passed (ends.Board OutOfMemory) = passed < tickets
EndsWork client tickets passed (ends.TurnsSpent c) = (c ≡ client) × (passed < tickets)
EndsWork client tickets passed ends.OutOfMemory = passed < tickets
EndsWork client tickets passed fault = ⊥

-- The work that ended by this fault left this many turns. It ends by `TurnsSpent` only with no turn
-- left.
abbrev pub LeavesTurns : ℕ → ClusterFault → Type 0
LeavesTurns left (ends.TurnsSpent c) = left ≡ 0
LeavesTurns left fault = Unit {0}

-- The work that ended by this fault lost messages, from `before` of them to `after`. It ends by
-- `OutOfMemory` only after `most_starved` reminders in a row each lost one.
abbrev pub LosesBy : ClusterFault → ℕ → ℕ → Type 0
LosesBy ends.OutOfMemory before after = LosesAtLeast most_starved before after
LosesBy fault before after = before ≤ after

-- What ends a wait for votes. This many turns are left, and this many reminders in a row found no
-- memory for a message.
abbrev pub EndsWait : ℕ → ℕ → ℕ → ClusterFault → Type 0
EndsWait client left starved (ends.TurnsSpent c) = (c ≡ client) × (left ≡ 0) × (starved < most_starved)
EndsWait client left starved ends.OutOfMemory = starved ≡ most_starved
EndsWait client left starved fault = ⊥

-- how many tickets this fault leaves without a pass: 1 if it came after the draw
abbrev pub tickets_without_pass : ClusterFault → ℕ
tickets_without_pass (ends.Client e) = 0
tickets_without_pass (ends.Deal e) = 0
tickets_without_pass ends.NoSecondPlan = 0
tickets_without_pass fault = 1

-- The member is idle again, and its work ended early by this fault. It made fewer than `passes`
-- passes. It drew a ticket for each that it made, and one more if the fault came after the draw. If
-- there is another plan, it exchanged the plan after half of `passes` passes, if it came so far.
pub record HasEnded (passes : ℕ) (fault : ClusterFault) (before after : MemberState) : Type 0 where
  pub passed : ℕ
  pub fewer : passed < passes
  pub worked : Worked (draws_by before.clerks (passes / 2) (passed + tickets_without_pass fault)) passed before after
  pub side : after.clerks.side ≡ side_after before.clerks (passes / 2) passed
  pub idle : is_idle after.requester.phase ≡ true
  pub ends : EndsWork after.requester.id (rest_of before.clerks after.clerks.side)
      (draws_by before.clerks (passes / 2) passed after.clerks.side) fault
  pub lost : LosesBy fault before.lost after.lost

-- The member is idle again, and made n passes by the plan in use, with a ticket for each. Nothing
-- ended its work early.
pub record HasServedOn (n : ℕ) (before after : MemberState) : Type 0 where
  pub worked : Worked (λ plan. on before.clerks.side plan n) n before after
  pub side : after.clerks.side ≡ before.clerks.side
  pub idle : is_idle after.requester.phase ≡ true
  pub fault : after.fault ≡ None

-- the member's work by the plan in use ended early by this fault, before n passes
pub record HasEndedOn (n : ℕ) (fault : ClusterFault) (before after : MemberState) : Type 0 where
  pub passed : ℕ
  pub fewer : passed < n
  pub worked : Worked (λ plan. on before.clerks.side plan (passed + tickets_without_pass fault)) passed before after
  pub side : after.clerks.side ≡ before.clerks.side
  pub idle : is_idle after.requester.phase ≡ true
  pub keeps : after.fault ≡ Some fault
  pub ends : EndsWork after.requester.id (rest_of before.clerks before.clerks.side) passed fault
  pub lost : LosesBy fault before.lost after.lost

-- the clerks after the member exchanged the plan, if there is another one
abbrev pub next_plan : ClerksState → ClerksState
next_plan k = record k { side = cond (may_exchange k) Second k.side }

-- the member did not make its pass, because of this fault
abbrev pub Stops : MemberState → MemberState → ClusterFault → Type 0
Stops before after fault = Worked (λ plan. on before.clerks.side plan (tickets_without_pass fault)) 0 before after
    × (after.clerks.side ≡ before.clerks.side)
    × EndsWork before.requester.id (rest_of before.clerks before.clerks.side) 0 fault
    × LosesBy fault before.lost after.lost

-- if the client passed, it was let pass
abbrev pub WasLet : (ℕ → Bool) → MemberState → MemberState → Type 0
WasLet lets before after = length before.seat.passes < length after.seat.passes → lets after.requester.id ≡ true

-- each pass took at least two of the `turns` turns: one to enter, and one question to the gate
abbrev pub TookTurns : ℕ → MemberState → MemberState → Type 0
TookTurns turns before after = 2 * length after.seat.passes ≤ 2 * length before.seat.passes + turns

-- without a fault the member did all its work; with a fault its work ended early by it
abbrev pub IsBackBy : ℕ → Option ClusterFault → MemberState → MemberState → Type 0
IsBackBy passes None before after = HasServed passes before after
IsBackBy passes (Some fault) before after = HasEnded passes fault before after

abbrev pub IsBack : ℕ → MemberState → MemberState → Type 0
IsBack passes before after = IsBackBy passes after.fault before after

-- the work of this client ended early by this fault, and no client with a smaller number has a
-- fault
pub record IsLeast (members : List MemberState) (client : ℕ) (fault : ClusterFault) : Type 0 where
  pub member : MemberState
  pub among : Contains members member
  pub number : member.requester.id ≡ client
  pub ended : member.fault ≡ Some fault
  pub others : All (λ m. IfSome m.fault (λ f. client ≤ m.requester.id)) members

-- the smallest client whose work ended early, and its fault; none if no member's did
abbrev pub IsLeastOf : List MemberState → Option (ℕ × ClusterFault) → Type 0
IsLeastOf members None = All (λ m. m.fault ≡ None) members
IsLeastOf members (Some x) = IsLeast members x.0 x.1

-- this is the fault of the smallest client whose work ended early
abbrev pub IsLeastFault : List MemberState → ClusterFault → Type 0
IsLeastFault members fault = (client : ℕ) × IsLeast members client fault
