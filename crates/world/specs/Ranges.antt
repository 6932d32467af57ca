-- How large the numbers of a message are, and what holds after every run.
use Rattle.std.specs.Prelude.{ℕ, ◌<◌, ◌≤◌, List}
use Rattle.std.specs.List.{AllByRecursion}
use Rattle.message.specs.declared.message.Message.{Message}
use Rattle.message.specs.declared.message.Message.TheVariants as kinds
use Rattle.message.specs.declared.message.ClientBody.{ClientBody}
use Rattle.message.specs.declared.message.ClientBody.TheVariants as to_client
use Rattle.message.specs.Lines.{voter_number}
use Rattle.world.specs.Runs.{DrawsInOrder}
use Rattle.world_state.specs.Numbered.{IsNumbered}
use Rattle.world_state.specs.Steps.{WorldState}
use Rattle.world.specs.Visible.{IsExclusive}

-- a stamp or a grant number: from 1 to the limit
abbrev pub IsWithin : ℕ → ℕ → Type 0
IsWithin limit n = (1 ≤ n) × (n ≤ limit)

-- the stamps and grants in a message to a client are from 1 to the limit
abbrev pub ReportsWithin : ℕ → ClientBody → Type 0
ReportsWithin limit (to_client.Locked stamp grant) = IsWithin limit stamp × IsWithin limit grant
ReportsWithin limit (to_client.Fail stamp) = IsWithin limit stamp
ReportsWithin limit (to_client.Inquire grant) = IsWithin limit grant

-- The message names a client and a voter of the world. Its stamp and its grant are from 1 to the
-- limit, and the highest stamp that its voter saw is at most the limit.
abbrev pub IsInRange : ℕ → ℕ → ℕ → Message → Type 0
IsInRange voters clients limit (kinds.ToVoter m) =
    (m.client < clients) × (m.voter < voters) × IsWithin limit (voter_number m.body)
IsInRange voters clients limit (kinds.ToClient m) =
    (m.client < clients) × (m.voter < voters) × (m.seen ≤ limit) × ReportsWithin limit m.body

-- each of these messages is in range
abbrev pub AreInRange : ℕ → ℕ → ℕ → List Message → Type 0
AreInRange voters clients limit sent = AllByRecursion (IsInRange voters clients limit) sent

-- what holds after every run of a world with this number of voters, this number of clients and this
-- limit
pub record IsSound (voters clients limit : ℕ) (w : WorldState) : Type 0 where
  pub exclusive : IsExclusive w.visible
  pub in_range : AreInRange voters clients limit w.sent
  pub draws : DrawsInOrder w.draws
  pub draws2 : DrawsInOrder w.draws2
  pub numbered : IsNumbered w
