use Rattle.std.proofs.Common.{ℕ, List, length, ap, sym, ◌∙◌}
use Rattle.numbers.specs.Counts.{times}
use Rattle.replay.proofs.AscendingLemmas.{EachOnce-same, IsMissing-same, NoneTwice-same, IsTwice-same}
use Rattle.replay.proofs.check.first_gap.Goals as goal

pub returns-in-Some : goal.returns-in-Some
returns-in-Some c =
    IsTwice-same c.deref.result.now c.args.numbers.items c.in-Some.number (λ m. ap (times m) c.deref.ensures.value ∙ c.ascending-ascending.ensures.same m) c.in-Some.ensures

pub least_missing-requires-clause-apart : goal.least_missing-requires-clause-apart
least_missing-requires-clause-apart c =
    NoneTwice-same c.deref.result.now c.deref-in-None.result.now (λ m. ap (times m) c.deref.ensures.value ∙ sym (ap (times m) c.deref-in-None.ensures.value)) c.in-None.ensures

pub returns-in-Some-least_missing : goal.returns-in-Some-least_missing
returns-in-Some-least_missing c = (
  NoneTwice-same c.deref.result.now c.args.numbers.items (λ m. ap (times m) c.deref.ensures.value ∙ c.ascending-ascending.ensures.same m) c.in-None.ensures,
  IsMissing-same c.deref-in-None.result.now c.args.numbers.items c.in-Some-least_missing.number (λ m. ap (times m) c.deref-in-None.ensures.value ∙ c.ascending-ascending.ensures.same m)
      (ap (λ (l : List ℕ). length l) c.deref-in-None.ensures.value ∙ c.ascending-ascending.ensures.len) c.in-Some-least_missing.ensures,
)

pub returns : goal.returns
returns c =
    EachOnce-same c.deref-in-None.result.now c.args.numbers.items (λ m. ap (times m) c.deref-in-None.ensures.value ∙ c.ascending-ascending.ensures.same m)
    (ap (λ (l : List ℕ). length l) c.deref-in-None.ensures.value ∙ c.ascending-ascending.ensures.len) c.in-None-least_missing.ensures
