use Rattle.std.proofs.Common.{◌≡◌, map, take}
use Rattle.std.specs.List.{AllByRecursion}
use Rattle.show_compare.specs.Compare.{AreFigures}
use Rattle.show_compare.proofs.entries.entries_of.Given as goal

-- the candidates so far, and their figures
abbrev pub invariant-loop-candidate : goal.invariant-loop-candidate
invariant-loop-candidate l = record {
  candidates : map (λ e. e.candidate.now) l.entries.items ≡ take l.candidate-index l.candidates;
  figures : AllByRecursion (λ e. AreFigures e.candidate.now.named e.compared) l.entries.items;
}
