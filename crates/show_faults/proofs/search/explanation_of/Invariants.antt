use Rattle.std.proofs.Common.{map, drop, All}
use Rattle.show_faults.specs.Codes.{codes_of, IsNoneOf}
use Rattle.show_faults.proofs.search.explanation_of.Given as goal

abbrev pub invariant-loop-section : goal.invariant-loop-section
invariant-loop-section l =
    All (IsNoneOf l.code) (map (λ s. codes_of s.explanations.now) (drop l.section-index l.section-items))
    → All (IsNoneOf l.code) (map (λ s. codes_of s.explanations.now) l.section-items)
