use Rattle.std.proofs.Common.{◌++◌, List, ℕ, ap, ap₂, subst, ◌∙◌}
use Rattle.std.specs.Prelude.{string_bytes}
use Rattle.quorum_set.specs.Coteries.{QuorumSystem}
use Rattle.show_failures.specs.Resilience.{SaysBorne, used_text}
use Rattle.show_failures.specs.declared.resilience.Quorums.TheVariants.{OfPlan}
use Rattle.show_failures.proofs.resilience.plan_text.Goals as goal

pub returns : goal.returns
returns c =
    let rest = string_bytes c.in_ok-rest.rest in
    let P : QuorumSystem → Type 0 = λ s. SaysBorne OfPlan c.args.named.now.names s rest in (
      rest,
      subst P c.in_ok-used.ensures c.in_ok-rest.ensures,
      c.in_ok-push_str.ensures.bytes
          ∙ ap₂ (λ (a b : List ℕ). a ++ b)
          (c.in_ok-push_used.ensures ∙ ap (λ (o : List ℕ). o ++ used_text c.args.weights.now) c.new-text.ensures.bytes)
          c.as_str.ensures.value,
    )
