use Rattle.std.proofs.Common.{◌≡◌, take}
use Rattle.board.proofs.board.quorums_of.Given as goal

abbrev pub invariant-loop-j : goal.invariant-loop-j
invariant-loop-j l = l.quorums.items ≡ take l.j l.coterie.quorums
