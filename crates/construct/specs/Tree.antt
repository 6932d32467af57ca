-- Tree quorums (Agrawal and El Abbadi, ACM TOCS 9(1), 1991): paths from the root to a leaf. A node
-- may be left out if paths below both of its children replace it.
use Rattle.std.specs.Prelude.{ℕ, ◌+◌, ◌-◌, ◌*◌, ◌^◌, ◌==◌, ◌||◌, List, [], ◌∷◌, ◌++◌, Result, Ok, false, map, nat_lt, zero, suc}
use Rattle.std.specs.List.{flat_map}
use Rattle.quorum_set.specs.Coteries.{QuorumSystem}
use Rattle.numbers.specs.Sets.{has, set_where}
pub use Rattle.numbers.specs.Sets.{union}
use Rattle.construct.specs.Answers.{check_sizes}
use Rattle.construct.specs.declared.fault.ConstructFault.{ConstructFault}

-- the set with the node added
abbrev pub with_node : ℕ → List ℕ → List ℕ
with_node i s = set_where (λ v. (v == i) || has s v)

-- the quorums of an inner node, from those of its children: the node with a left one, the node with
-- a right one, and a left one with a right one
abbrev pub node_quorums : ℕ → List (List ℕ) → List (List ℕ) → List (List ℕ)
node_quorums i left right =
    map (with_node i) left ++ map (with_node i) right ++ flat_map (λ p. map (union p) right) left

-- the quorums of the tree of height h under node i; its children are nodes 2 * i + 1 and 2 * i + 2
unfoldable pub quorums_under : ℕ → ℕ → List (List ℕ)
quorums_under zero i = set_where (λ v. v == i) ∷ []
quorums_under (suc h) i = node_quorums i (quorums_under h (2 * i + 1)) (quorums_under h (2 * i + 2))

-- the quorums of the tree of this height, whose root is node 0
abbrev pub tree_quorums : ℕ → List (List ℕ)
tree_quorums height = quorums_under height 0

-- the tree of this height
abbrev pub tree_system : ℕ → QuorumSystem
tree_system height = record { voters = 2 ^ (height + 1) - 1; quorums = tree_quorums height }

-- the tree of this height, or the fault of its size
abbrev pub tree_at : ℕ → Result QuorumSystem ConstructFault
tree_at height = check_sizes false (nat_lt 3 height) (Ok (tree_system height))
