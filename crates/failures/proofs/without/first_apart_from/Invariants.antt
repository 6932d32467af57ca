use Rattle.std.proofs.Common.{◌≡◌, [], true, slice_index_or, ℕ, ◌<◌}
use Rattle.numbers.specs.Sets.{meet}
use Rattle.failures.proofs.without.first_apart_from.Given as goal

abbrev pub invariant-loop-j : goal.invariant-loop-j
invariant-loop-j l = (k : ℕ) → k < l.j → meet l.set (slice_index_or l.coterie.quorums k []) ≡ true
