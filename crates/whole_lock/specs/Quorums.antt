-- Votes of a quorum, by the automata of its voters.
use Rattle.std.specs.Prelude.{ℕ, List}
use Rattle.std.specs.List.{AllByRecursion}
use Rattle.working.specs.Events.{IsOneOf}
use Rattle.working_votes.specs.Turns.{Askers, HasVote, Place}

-- This request of a session has the votes of one of these quorums: of each voter in it the automaton's grant is to this request, or the
-- voter is quiet.
pub record HasQuorum (who : Askers) (places : ℕ → Place) (session request : ℕ) (quorums : List (List ℕ)) : Type 0 where
  pub quorum : List ℕ
  pub is_quorum : IsOneOf quorum quorums
  pub votes : AllByRecursion (HasVote who places session request) quorum
