-- The quorums of a board as one list, and votes that cover a quorum. Where a plan is exchanged for
-- another, the list has the first coterie's quorums and then the second's.
use Rattle.std.specs.Prelude.{◌≢◌, ℕ, ◌+◌, ◌<◌, List, [], length, slice_index, slice_index_or}
use Rattle.std.specs.List.{All}
use Rattle.quorum_set.specs.declared.bridge.Side.{Side}
use Rattle.quorum_set.specs.declared.bridge.Side.TheVariants.{First, Second}

-- the place of a coterie's quorum j in the list, which starts with this number of first quorums
abbrev pub place_of : ℕ → Side → ℕ → ℕ
place_of firsts First j = j
place_of firsts Second j = firsts + j

-- the coterie has a quorum j
abbrev pub HasQuorum : ℕ → List (List ℕ) → Side → ℕ → Type 0
HasQuorum firsts quorums First j = j < firsts
HasQuorum firsts quorums Second j = firsts + j < length quorums

-- the members of the quorum at this place of the list
abbrev pub quorum_at : List (List ℕ) → ℕ → List ℕ
quorum_at quorums j = slice_index_or quorums j []

-- Each member's vote is held. `held` has for each voter the number of the grant under which its
-- vote is held, or 0.
abbrev pub HoldsAll : List ℕ → List ℕ → Type 0
HoldsAll members held = All (λ v. slice_index held v ≢ 0) members
