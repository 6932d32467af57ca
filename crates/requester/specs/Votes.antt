-- What a message does to a client: how its request goes on, what becomes of each vote, and what is
-- sent.
use Rattle.std.specs.Prelude.{ℕ, ◌≡◌, ◌<◌, ◌⊎◌, true, false, max}
use Rattle.std.specs.List.{AllByRecursion, Contains}
use Rattle.message.specs.declared.message.ToVoter.{ToVoter}
use Rattle.message.specs.declared.message.ToClient.{ToClient}
use Rattle.message.specs.declared.message.ClientBody.TheVariants as to_client
use Rattle.message.specs.declared.message.VoterBody.TheVariants as asks
use Rattle.requester.specs.declared.state.Phase.TheVariants.{Inside}
use Rattle.requester.specs.declared.state.Seen.TheVariants.{Nothing, Entered}
use Rattle.requester.specs.declared.state.ClientState.{ClientState}
use Rattle.requester.specs.Words.{held_of, holds, is_asking, is_covered, is_current, is_hindered, is_idle, is_inquired, is_inside, is_member, is_relinquished, last_of}
use Rattle.requester.specs.Steps.{Outcome, tell, would_hold}

-- The request

-- a LOCKED that counts brought the last vote
pub record Enters (x : ClientState) (m : ToClient) (o : Outcome) : Type 0 where
  pub busy : is_idle x.phase ≡ false
  pub counts : would_hold x m ≡ true
  pub after : o.state.phase ≡ Inside
  pub covered : is_covered o.state ≡ true
  pub seen : o.seen ≡ Entered

-- The client and its request are as before a message, and the clock is raised to what its voter
-- saw. Nothing is seen and the phase is as before, or the client enters.
pub record KeepsRequest (x : ClientState) (m : ToClient) (o : Outcome) : Type 0 where
  pub id : o.state.id ≡ x.id
  pub limit : o.state.limit ≡ x.limit
  pub clock : o.state.clock ≡ max x.clock m.seen
  pub stamp : o.state.stamp ≡ x.stamp
  pub quorum : o.state.quorum ≡ x.quorum
  pub phase : ((o.state.phase ≡ x.phase) × (o.seen ≡ Nothing)) ⊎ Enters x m o

-- One vote

-- the message asks for this vote, which is held
pub record AsksFor (m : ToClient) (x : ClientState) (v : ℕ) : Type 0 where
  pub voter : m.voter ≡ v
  pub body : m.body ≡ to_client.Inquire (held_of x v)
  pub held : holds x v ≡ true

-- the vote and its last grant are as before
pub record KeptVote (m : ToClient) (x z : ClientState) (v : ℕ) : Type 0 where
  pub held : held_of z v ≡ held_of x v
  pub last : last_of z v ≡ last_of x v
  pub given : is_relinquished z v ≡ is_relinquished x v
  -- it is marked as asked for if it was, or the message asks for it
  pub marked : is_inquired x v ≡ true → is_inquired z v ≡ true
  pub new : is_inquired z v ≡ true → (is_inquired x v ≡ true) ⊎ AsksFor m x v
  -- a client keeps a vote that is asked for only if it is not hindered
  pub asked : is_asking x.phase ≡ true → AsksFor m x v → (is_hindered x ≡ false) × (is_inquired z v ≡ true)
  -- a client becomes hindered only if no vote is marked afterwards
  pub clear : is_hindered z ≡ true → is_inquired z v ≡ true → (is_hindered x ≡ true) × (is_inquired x v ≡ true)

-- the message is a LOCKED of this vote that counts; its grant is newer than the last one given back
pub record BroughtVote (m : ToClient) (x z : ClientState) (v : ℕ) : Type 0 where
  pub counts : would_hold x m ≡ true
  pub voter : m.voter ≡ v
  pub body : m.body ≡ to_client.Locked x.stamp (held_of z v)
  pub busy : is_idle x.phase ≡ false
  pub member : is_member x v ≡ true
  pub free : holds x v ≡ false
  pub has : holds z v ≡ true
  pub newer : last_of x v < held_of z v
  pub last : last_of z v ≡ last_of x v
  pub given : is_relinquished z v ≡ false
  pub inquired : is_inquired z v ≡ false
  -- the client is inside if and only if it now holds the vote of each member
  pub inside : is_inside z.phase ≡ is_covered z

-- The vote goes back by RELINQUISH, and its grant is the last one given back: it was marked as asked
-- for, or the message asks for it. Only a client that asks gives votes back.
pub record ReturnedVote (m : ToClient) (x : ClientState) (o : Outcome) (v : ℕ) : Type 0 where
  pub asking : is_asking x.phase ≡ true
  pub had : holds x v ≡ true
  pub gone : held_of o.state v ≡ 0
  pub last : last_of o.state v ≡ held_of x v
  pub given : is_relinquished o.state v ≡ true
  pub inquired : is_inquired o.state v ≡ false
  pub sent : Contains o.out (tell x v (asks.Relinquish (held_of x v)))
  pub why : (is_inquired x v ≡ true) ⊎ AsksFor m x v

-- what a message does to a vote
abbrev pub VoteFate : ToClient → ClientState → Outcome → ℕ → Type 0
VoteFate m x o v = KeptVote m x o.state v ⊎ BroughtVote m x o.state v ⊎ ReturnedVote m x o v

-- What is sent

-- RELINQUISH of a vote that is given back
pub record IsGiving (m : ToClient) (x : ClientState) (o : Outcome) (n : ToVoter) : Type 0 where
  pub client : n.client ≡ x.id
  pub vote : ReturnedVote m x o n.voter
  pub body : n.body ≡ asks.Relinquish (held_of x n.voter)

-- RELEASE of a vote that came for another request than the one that runs
pub record IsReleasing (m : ToClient) (x : ClientState) (n : ToVoter) : Type 0 where
  pub stamp : ℕ
  pub grant : ℕ
  pub client : n.client ≡ x.id
  pub voter : n.voter ≡ m.voter
  pub locked : m.body ≡ to_client.Locked stamp grant
  pub over : is_current x stamp ≡ false
  pub body : n.body ≡ asks.Release stamp

-- each message that is sent is one of these two
abbrev pub SendsBack : ToClient → ClientState → Outcome → Type 0
SendsBack m x o = AllByRecursion (λ n. IsGiving m x o n ⊎ IsReleasing m x n) o.out
