use Rattle.std.proofs.Common.{◌≡◌, [], map, take, drop, string_bytes}
use Rattle.coterie_file.specs.Names.{first_repeat}
use Rattle.coterie_file.proofs.names.numbered.Given as goal

abbrev pub invariant-loop-i : goal.invariant-loop-i
invariant-loop-i l =
    (map (λ k. k.now) l.seen.keys ≡ map string_bytes (take l.i l.names))
    × (first_repeat (map string_bytes (take l.i l.names)) (map string_bytes (drop l.i l.names)) ≡ first_repeat [] (map string_bytes l.names))
