use Rattle.std.proofs.Common.{◌≡◌, ◌+◌, ◌<◌, vec_len}
use Rattle.std.specs.List.{All}
use Rattle.simplex.proofs.method.quorum_summands.Given as goal

abbrev pub invariant-loop-quorum : goal.invariant-loop-quorum
invariant-loop-quorum l = record {
  count : vec_len l.columns ≡ l.quorum;
  in_range : All (λ list. All (λ j. j < l.coterie.voters + 3) list.items) l.columns.items;
}
