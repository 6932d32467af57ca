use Rattle.std.proofs.Common.{◌≡◌, ◌++◌, drop, flat_map, string_bytes}
use Rattle.coterie_file.specs.Writing.{quorum_line}
use Rattle.coterie_file.proofs.writing.push_quorums.Given as goal

abbrev pub invariant-loop-j : goal.invariant-loop-j
invariant-loop-j l =
    string_bytes l.text ++ flat_map (quorum_line l.named.names) (drop l.j l.named.system.quorums) ≡ string_bytes l.initial.text ++ flat_map (quorum_line l.named.names) l.named.system.quorums
