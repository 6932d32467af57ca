use Rattle.std.proofs.Common.{◌≡◌, ◌<◌, ℕ, List}
use Rattle.std.specs.List.{All}
use Rattle.coterie_file.specs.Named.{NamedSystem}
use Rattle.show_failures.specs.Groups.{groups_below}
use Rattle.show_failures.proofs.groups.groups_of.Given as goal

-- the groups of the voters so far
pub record AreGroups (named : NamedSystem) (n : ℕ) (groups : List (List ℕ)) : Type 0 where
  pub are : groups ≡ groups_below named.names n
  pub voters : All (λ g. All (λ i. i < named.system.voters) g) groups

abbrev pub invariant-loop-voter : goal.invariant-loop-voter
invariant-loop-voter l = AreGroups l.named l.voter l.groups.items
