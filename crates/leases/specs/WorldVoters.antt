-- The voters of a world with incidents, each by itself, as `passes` has them: each has a life.
use Rattle.std.specs.Prelude.{ℕ, ◌≡◌, ◌<◌, ◌⊎◌, ◌==◌, if◌then◌else◌, List, [], ◌∷◌}
use Rattle.message.specs.declared.message.Message.{Message}
use Rattle.message.specs.declared.message.Message.TheVariants as kinds
use Rattle.message.specs.declared.message.ToClient.{ToClient}
use Rattle.voter.specs.declared.state.VoterState.{VoterState}
use Rattle.voter.specs.Saved.{least_voter}
use Rattle.voter_node.specs.Nodes as nodes
use Rattle.passes.specs.Grants.{Gave, IsPass, Pass, Voters}
use Rattle.voter_node.specs.Lives.{lived, said}
use Rattle.world.specs.Restarts.{Saved}
use Rattle.world_state.specs.Steps.{voter_at}
use Rattle.world.specs.Incidents.{all_befall}
use Rattle.leases.specs.Shows.{IsShown, Story}

-- The node is a voter with these states, live and saved, and has nothing that waits. In a world all but the least of
-- what is saved may be lost while the voter runs. A node learns of it when it restarts.
pub record IsNodeOf (now stored : VoterState) (n : nodes.Node) : Type 0 where
  pub live : n.live ≡ now
  pub saved : (stored ≡ n.saved) ⊎ (stored ≡ least_voter n.saved)
  pub none_wait : n.outbox ≡ []

-- what this voter said, of all that was sent
abbrev pub said_by : ℕ → List Message → List ToClient
said_by v [] = []
said_by v (kinds.ToVoter m ∷ ms) = said_by v ms
said_by v (kinds.ToClient m ∷ ms) = if m.voter == v then m ∷ said_by v ms else said_by v ms

-- the world after a story
abbrev pub end_of : Story → Saved
end_of story = all_befall story.deal story.incidents story.first

-- the node is this voter of the world
abbrev pub IsNodeIn : Saved → ℕ → nodes.Node → Type 0
IsNodeIn s v n = IsNodeOf (voter_at s.live.voters v) (voter_at s.voters v) n

-- These are the voters of a story, as many as its world has, with their lives. Each begins with the world's limit. Its
-- life leads to what the world has of it at the end, and it says in it what the world has sent from it, in the same
-- order. What a client shows is a pass.
pub record AreVoters (count limit : ℕ) (quorums : List (List ℕ)) (story : Story) (lives : Voters) : Type 0 where
  pub limits : (v : ℕ) → lives.limit v ≡ limit
  pub leads : (v : ℕ) → v < count → IsNodeIn (end_of story) v (lived v (lives.limit v) (lives.life v))
  pub says : (v : ℕ) → v < count → said v (lives.limit v) (lives.life v) ≡ said_by v (end_of story).live.sent
  pub passes : (p : Pass) → IsShown story p → IsPass quorums (Gave lives) p
