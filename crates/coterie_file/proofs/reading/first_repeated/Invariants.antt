use Rattle.std.proofs.Common.{◌≡◌, drop}
use Rattle.std.specs.List.{position_from}
use Rattle.coterie_file.proofs.ReadingLemmas.{repeats}
use Rattle.coterie_file.proofs.reading.first_repeated.Given as goal

abbrev pub invariant-loop-j : goal.invariant-loop-j
invariant-loop-j l = position_from repeats l.j (drop l.j l.quorums) ≡ position_from repeats 0 l.quorums
