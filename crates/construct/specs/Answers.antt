-- Results of constructions.
use Rattle.std.specs.Prelude.{ℕ, Bool, true, false, if◌then◌else◌, List, ◌++◌, length, nat_lt, Vec, Result, Ok, Err}
use Rattle.std.specs.declared.alloc.Global.{Global}
use Rattle.numbers.specs.Bounds.{max_quorums}
use Rattle.numbers.specs.Results.{GivesUnless}
use Rattle.quorum_set.specs.Coteries.{QuorumSystem}
use Rattle.construct.specs.declared.fault.ConstructFault.{ConstructFault}
use Rattle.construct.specs.declared.fault.ConstructFault.TheVariants.{BadSize, TooLarge, OutOfMemory}

-- `BadSize` if the sizes are bad, else `TooLarge` if they are too large, else what is built
abbrev pub check_sizes : Bool → Bool → Result QuorumSystem ConstructFault → Result QuorumSystem ConstructFault
check_sizes bad large built = if bad then Err BadSize else if large then Err TooLarge else built

-- the fault is out of memory
abbrev pub is_out_of_memory : ConstructFault → Bool
is_out_of_memory OutOfMemory = true
is_out_of_memory fault = false

-- the result is the wanted one, unless memory ran out
abbrev pub Gives : Result QuorumSystem ConstructFault → Result QuorumSystem ConstructFault → Type 0
Gives result wanted = GivesUnless is_out_of_memory (λ system. system) result wanted

-- the sets, or `TooLarge` if there are more than 4096
unfoldable pub few : List (List ℕ) → Result (List (List ℕ)) ConstructFault
few sets = if nat_lt max_quorums (length sets) then Err TooLarge else Ok sets

-- the list has these sets, or there are too many, unless memory ran out
abbrev pub Lists : Result (Vec (List ℕ) Global) ConstructFault → List (List ℕ) → Type 0
Lists result sets = GivesUnless is_out_of_memory (λ list. list.items) result (few sets)

-- the old sets and these are the new ones, or there are too many, unless memory ran out
abbrev pub Adds : {X : Type 0} → Result X ConstructFault → List (List ℕ) → List (List ℕ) → List (List ℕ) → Type 0
Adds result old new sets = GivesUnless is_out_of_memory (λ _. new) result (few (old ++ sets))
