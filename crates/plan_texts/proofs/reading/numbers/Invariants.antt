use Rattle.std.proofs.Common.{◌≡◌, ◌++◌, length}
use Rattle.std.specs.Prelude.{◌==◌}
use Rattle.std.specs.Option.{option_map}
use Rattle.std.specs.List.{slice_split}
use Rattle.plan_texts.specs.PlanTexts.{numbers_of}
use Rattle.plan_texts.proofs.reading.numbers.Given as goal

abbrev pub invariant-words : goal.invariant-words
invariant-words l = option_map (λ more. l.found.items ++ more) (numbers_of (slice_split (λ b. b == 32) l.rest)) ≡ numbers_of (slice_split (λ b. b == 32) l.text)

abbrev pub decreases-words : goal.decreases-words
decreases-words l = length l.rest
