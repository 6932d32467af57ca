use Rattle.std.proofs.Common.{◌≡◌, map, take}
use Rattle.coterie_file.specs.Names.{name_at}
use Rattle.coterie_file.proofs.writing.members_of.Given as goal

abbrev pub invariant-loop-i : goal.invariant-loop-i
invariant-loop-i l = map (λ n. n.now) l.names.items ≡ map (name_at l.named.names) (take l.i-index l.i-items)
