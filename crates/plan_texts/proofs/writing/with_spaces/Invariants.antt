use Rattle.std.proofs.Common.{◌≡◌, take}
use Rattle.std.specs.Prelude.{string_bytes}
use Rattle.plan_texts.specs.PlanTexts.{with_spaces}
use Rattle.plan_texts.proofs.writing.with_spaces.Given as goal

abbrev pub invariant-loop-k : goal.invariant-loop-k
invariant-loop-k l = string_bytes l.text ≡ with_spaces (take l.k l.numbers)
