use Rattle.std.proofs.Common.{ℕ, List}
use Rattle.std.specs.List.{All}
use Rattle.quorum_set.specs.Coteries.{QuorumSystem}
use Rattle.robust.specs.Robust.{IsPlanned}
use Rattle.robust.proofs.search.shown_by.Given as goal

abbrev pub invariant-loop-place : goal.invariant-loop-place
invariant-loop-place l = (s : QuorumSystem) (capacities : List ℕ) → All (IsPlanned s capacities) l.failures → All (IsPlanned s capacities) l.with.items
