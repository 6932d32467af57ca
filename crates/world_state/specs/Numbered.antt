-- Which client and voter a message of a world names, and which numbers clients and voters have.
use Rattle.std.specs.Prelude.{ℕ, ◌≡◌, ◌<◌, ◌≤◌, length}
use Rattle.std.specs.List.{AllByRecursion}
use Rattle.numbers.specs.Bounds.{max_voters, max_clients}
use Rattle.message.specs.declared.message.Message.{Message}
use Rattle.message.specs.declared.message.Message.TheVariants as kinds
use Rattle.world_state.specs.Steps.{WorldState, client_at, voter_at}

-- the message names a client and a voter of the world
abbrev pub IsAddressed : WorldState → Message → Type 0
IsAddressed w (kinds.ToVoter m) = (m.client < length w.clients) × (m.voter < length w.voters)
IsAddressed w (kinds.ToClient m) = (m.client < length w.clients) × (m.voter < length w.voters)

-- Each client and each voter knows its own number, and there are at most 64 of each. Each message
-- names a client and a voter of the world.
pub record IsNumbered (w : WorldState) : Type 0 where
  pub clients : (c : ℕ) → c < length w.clients → (client_at w.clients c).id ≡ c
  pub voters : (v : ℕ) → v < length w.voters → (voter_at w.voters v).id ≡ v
  pub few_clients : length w.clients ≤ max_clients
  pub few_voters : length w.voters ≤ max_voters
  pub messages : AllByRecursion (IsAddressed w) w.sent
