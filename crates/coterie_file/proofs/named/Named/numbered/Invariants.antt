use Rattle.std.proofs.Common.{◌≡◌, map, string_bytes}
use Rattle.coterie_file.specs.Named.{numbered_names}
use Rattle.coterie_file.proofs.named.Named.numbered.Given as goal

abbrev pub invariant-loop-i : goal.invariant-loop-i
invariant-loop-i l = map string_bytes l.names.items ≡ numbered_names l.i-counter
