use Rattle.std.proofs.Common.{◌≡◌, ◌+◌, ◌<◌, length, vec_len}
use Rattle.std.specs.List.{All}
use Rattle.simplex.proofs.method.all_summands.Given as goal

abbrev pub invariant-loop-voter : goal.invariant-loop-voter
invariant-loop-voter l = record {
  count : vec_len l.columns ≡ length l.coterie.quorums + l.voter;
  in_range : All (λ list. All (λ j. j < l.coterie.voters + 3) list.items) l.columns.items;
}
