use Rattle.std.proofs.Common.{◌≡◌, drop}
use Rattle.coterie_file.specs.Names.{has_name}
use Rattle.show_failures.proofs.names.is_known.Given as goal

-- the name is among those from here on, or not, as it is among all
abbrev pub invariant-loop-voter : goal.invariant-loop-voter
invariant-loop-voter l = has_name (drop l.voter l.named.names) l.name ≡ has_name l.named.names l.name
