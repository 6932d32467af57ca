-- What the replies of a step say.
use Rattle.std.specs.Prelude.{ℕ, ◌≡◌, ◌+◌, ◌≤◌, true, List, [], ◌∷◌, Some, max, length}
use Rattle.std.specs.List.{AllByRecursion}
use Rattle.std.specs.FinMap.{get}
use Rattle.message.specs.declared.message.ToClient.{ToClient}
use Rattle.message.specs.declared.message.ToVoter.{ToVoter}
use Rattle.message.specs.declared.message.VoterBody.{VoterBody}
use Rattle.message.specs.declared.message.VoterBody.TheVariants as asks
use Rattle.message.specs.declared.message.ClientBody.{ClientBody}
use Rattle.message.specs.declared.message.ClientBody.TheVariants as to_client
use Rattle.voter.specs.declared.state.Grant.{Grant}
use Rattle.voter.specs.declared.state.VoterState.{VoterState}
use Rattle.voter.specs.Steps.{Outcome}

-- FAIL goes to a client that waits, with the stamp of its request. INQUIRE goes to the holder, with
-- the number of its grant, and is outstanding then.
abbrev pub ReportsPlace : VoterState → ℕ → ClientBody → Type 0
ReportsPlace v client (to_client.Locked stamp grant) = Unit {0}
ReportsPlace v client (to_client.Fail stamp) = get v.waiting client ≡ Some stamp
ReportsPlace v client (to_client.Inquire grant) = (g : Grant) × (v.held ≡ Some g) × (g.client ≡ client) × (g.grant ≡ grant) × (v.inquiring ≡ true)

-- each FAIL and each INQUIRE among these replies does so
abbrev pub AllReportPlace : VoterState → List ToClient → Type 0
AllReportPlace v replies = AllByRecursion (λ r. ReportsPlace v r.client r.body) replies

-- 1 for a LOCKED, else 0
abbrev pub locked_in : ClientBody → ℕ
locked_in (to_client.Locked stamp grant) = 1
locked_in (to_client.Fail stamp) = 0
locked_in (to_client.Inquire grant) = 0

-- how many of the replies are LOCKED
abbrev pub locked_count : List ToClient → ℕ
locked_count [] = 0
locked_count (r ∷ rs) = locked_in r.body + locked_count rs

-- the highest stamp seen, including that of a REQUEST or a RELEASE
abbrev pub seen_after : ℕ → VoterBody → ℕ
seen_after seen (asks.Request stamp) = max seen stamp
seen_after seen (asks.Relinquish grant) = seen
seen_after seen (asks.Release stamp) = max seen stamp

-- the replies carry the voter's number and the highest stamp that it saw
abbrev pub AllCarry : ℕ → ℕ → List ToClient → Type 0
AllCarry id seen replies = AllByRecursion (λ r. (r.voter ≡ id) × (r.seen ≡ seen)) replies

-- The replies of one step: at most three, and at most one of them a LOCKED. Each FAIL goes to a
-- client that waits, each INQUIRE to the holder.
pub record AreAnswers (o : Outcome) : Type 0 where
  pub place : AllReportPlace o.state o.replies
  pub few : length o.replies ≤ 3
  pub locked : locked_count o.replies ≤ 1

-- The replies carry the highest stamp seen, including that of the message. The voter's number and
-- its limit stay the same.
pub record CarrySeen (v : VoterState) (m : ToVoter) (o : Outcome) : Type 0 where
  pub carried : AllCarry v.id (seen_after v.seen m.body) o.replies
  pub seen : o.state.seen ≡ seen_after v.seen m.body
  pub id : o.state.id ≡ v.id
  pub limit : o.state.limit ≡ v.limit
