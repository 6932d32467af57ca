use Rattle.std.proofs.Common.{List, ℕ, subst}
use Rattle.fence.specs.Passes.{Admits}
use Rattle.stories.proofs.guard.refusal.Goals as goal

pub returns-in-None-clause-none : goal.returns-in-None-clause-none
returns-in-None-clause-none c = subst (λ (l : List ℕ). Admits c.args.fence.now.seen l) c.grants-grants.ensures.value c.in-None.ensures.none
