use Rattle.std.proofs.Common.{◌≡◌, ap, inl, inr, subst, sym, ◌∙◌, arith, get_or}
use Rattle.std.proofs.lemmas.Bool.{cases_eq}
use Rattle.std.proofs.lemmas.List.{get_or_default}
use Rattle.losses.specs.Regrets.{IsUsable}
use Rattle.losses.proofs.failure.are_all_usable.Goals as goal

pub loop-failure-preserved : goal.loop-failure-preserved
loop-failure-preserved c = λ k d lt.
    let failures = c.args.failures.now in
    let i = c.loop-failure.failure-index in
    let item = c.failure-item.result in
    elim (cases_eq k i) as (λ _. IsUsable c.args.coterie.now (get_or failures k d)) [
      | inl at ↦
          let same : item ≡ get_or failures k d = c.failure-item.is ∙ get_or_default failures i item d c.loop-failure-test.true ∙ ap (λ m. get_or failures m d) (sym at) in
          subst (IsUsable c.args.coterie.now) same (c.is_usable.ensures.0 c.if-not-is_usable.false)
      | inr off ↦ c.loop-failure.invariant k d (omega arith)
    ]
