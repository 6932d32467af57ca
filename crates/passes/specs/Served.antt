-- Voters that keep rows, and what they tell sessions of one lock.
use Rattle.std.specs.Prelude.{ℕ, ◌≡◌, List}
use Rattle.lock_node.specs.Letters.{Letter}
use Rattle.lock_node.specs.Locks.{Begins, LockNode}
use Rattle.lock_node.specs.Thrift.{HostTurn, LeaveOut, host_sent, life_by}
use Rattle.message.specs.declared.message.ClientBody.TheVariants as to_client
use Rattle.passes.specs.Grants.{Giving, Voters}
use Rattle.sessions.specs.Rows.{IsOneOf}
use Rattle.voter.specs.Steps.{start}
use Rattle.voter_node.specs.Nodes.{node_of}

-- a voter's process: how it begins, and all that its host does
pub record Voting : Type 0 where
  pub first : LockNode
  pub turns : List HostTurn

-- The process begins, its vote for this lock is new, and its host leaves saves out only where it may: the voter's number, its
-- first limit.
pub record IsNewVoting (lock v limit : ℕ) (voting : Voting) : Type 0 where
  pub begins : Begins voting.first
  pub may : LeaveOut voting.first voting.turns
  pub vote : voting.first.locks lock ≡ node_of (start v limit)

-- This voter, at some moment, told the session that the request of this client and stamp has its vote for the lock,
-- by the grant with this number: the voters, the lock, the session.
abbrev pub Told : (ℕ → Voting) → ℕ → ℕ → Giving
Told voting lock session v client stamp grant =
    (l : Letter) × IsOneOf l (host_sent (voting v).first (voting v).turns) × (l.lock ≡ lock) × (l.session ≡ session)
    × (l.message.client ≡ client) × (l.message.body ≡ to_client.Locked stamp grant)

-- the voters of one lock, each by itself: the voters, the lock, their first limits
abbrev pub voters_of : (ℕ → Voting) → ℕ → (ℕ → ℕ) → Voters
voters_of voting lock limit = record { limit = limit; life = λ v. life_by lock (voting v).first (voting v).turns }
