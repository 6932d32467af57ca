-- Bridges between coteries by names: each quorum of one has a voter's name in common with each
-- quorum of the other (A. W. Fu, IEEE TPDS 8(1), 1997, calls two such sets of quorums a bicoterie).
-- The two may list their voters in different orders, and may list different ones.
use Rattle.std.specs.Prelude.{◌≡◌, ◌⊎◌, ℕ, ◌<◌, ◌≤◌, List, [], length, map, slice_index_or, Contains}
use Rattle.coterie_file.specs.Named.{NamedSystem}
use Rattle.show_failures.specs.Names.{names_of, voters_named}

-- a quorum by its number
abbrev pub quorum_at : NamedSystem → ℕ → List ℕ
quorum_at named j = slice_index_or named.system.quorums j []

-- the voters of the first that have the name of a member of a quorum of the second
abbrev pub namesakes : NamedSystem → NamedSystem → List ℕ → List ℕ
namesakes first second q = voters_named first.names (names_of second.names q)

-- the same for each quorum of the second
abbrev pub all_namesakes : NamedSystem → NamedSystem → List (List ℕ)
all_namesakes first second = map (namesakes first second) second.system.quorums

-- some name is that of a member of quorum j of the first, and of a member of quorum k of the second
abbrev pub ShareName : NamedSystem → NamedSystem → ℕ → ℕ → Type 0
ShareName first second j k =
    (name : List ℕ) × Contains (names_of first.names (quorum_at first j)) name
    × Contains (names_of second.names (quorum_at second k)) name

-- each quorum of the first shares a name with each quorum of the second
abbrev pub AllShare : NamedSystem → NamedSystem → Type 0
AllShare first second =
    (j k : ℕ) → j < length first.system.quorums → k < length second.system.quorums → ShareName first second j k

-- Quorum j of the first and quorum k of the second share no name. No smaller pair does so: by the
-- first number, then by the second.
pub record IsFirstApart (first second : NamedSystem) (j k : ℕ) : Type 0 where
  pub in_first : j < length first.system.quorums
  pub in_second : k < length second.system.quorums
  pub apart : ¬ ShareName first second j k
  pub least : (a b : ℕ) → a < length first.system.quorums → b < length second.system.quorums
      → ¬ ShareName first second a b → (j < a) ⊎ ((j ≡ a) × (k ≤ b))
