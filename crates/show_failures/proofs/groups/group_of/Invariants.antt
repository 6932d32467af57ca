use Rattle.std.proofs.Common.{◌≡◌, bytes_eq}
use Rattle.coterie_file.specs.Names.{name_at}
use Rattle.show_failures.specs.Groups.{prefix_of}
use Rattle.show_failures.proofs.VoterLemmas.{passing}
use Rattle.show_failures.proofs.groups.group_of.Given as goal

-- the voters so far whose names have the prefix
abbrev pub invariant-loop-other : goal.invariant-loop-other
invariant-loop-other l = l.group ≡ passing (λ j. bytes_eq (prefix_of (name_at l.named.names j)) l.prefix) l.other
