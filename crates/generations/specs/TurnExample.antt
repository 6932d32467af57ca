-- Two requests by the first and the third one of three plans, which have no common voter, with their turns.
use Rattle.std.specs.Prelude.{ℕ, ◌+◌, List, [], ◌∷◌, slice_index_or}
use Rattle.message.specs.declared.message.VoterBody.TheVariants as asks
use Rattle.passes.specs.Grants.{Voters}
use Rattle.passes.specs.Guarded.{Entry}
use Rattle.voter_node.specs.Nodes.{IsSaved, Takes}
use Rattle.voter_node.specs.Lives.{Fate, IsSkipped, Meets}
use Rattle.generations.specs.Turns.{AsksBy, Marks}

-- a voter takes the REQUEST of client 0, by the first plan, and saves that: it gives grant 1
abbrev pub gives_first : ℕ → List Fate
gives_first v = Meets (Takes (record { client = 0; voter = v; body = asks.Request 1 })) ∷ Meets IsSaved ∷ []

-- a voter skips grant 1, takes the REQUEST of client 2, by the third plan, and saves that: it gives grant 2
abbrev pub gives_second : ℕ → List Fate
gives_second v = IsSkipped 1 ∷ Meets (Takes (record { client = 2; voter = v; body = asks.Request 3 })) ∷ Meets IsSaved ∷ []

-- voters 0 and 1 give their votes to client 0, and voters 4 and 5 to client 2; each has at most 10 grants
abbrev pub six_voters : Voters
six_voters = record {
  limit = λ v. 10;
  life = λ v. slice_index_or (gives_first 0 ∷ gives_first 1 ∷ [] ∷ [] ∷ gives_second 4 ∷ gives_second 5 ∷ []) v [];
}

-- client n asks by plan n
abbrev pub by_number : AsksBy
by_number client stamp = client

-- the floor of plan n is n, at each voter, and its ceiling n + 1
abbrev pub floors : Marks
floors n v = n

abbrev pub ceilings : Marks
ceilings n v = n + 1

-- the passes, and their turns
abbrev pub first_entry : Entry
first_entry = record { pass = record { client = 0; stamp = 1; grants = 1 ∷ 1 ∷ [] }; turn = 1 }

abbrev pub third_entry : Entry
third_entry = record { pass = record { client = 2; stamp = 3; grants = 0 ∷ 0 ∷ 0 ∷ 0 ∷ 2 ∷ 2 ∷ [] }; turn = 2 }
