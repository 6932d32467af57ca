use Rattle.std.proofs.Common.{refl}
use Rattle.robust.proofs.PlannedLemmas.{IsPlanned-same}
use Rattle.robust.proofs.search.with_multipliers.Goals as goal

pub returns : goal.returns
returns c = λ s capacities. IsPlanned-same s capacities c.args.failure.now _ c.copy.ensures.value refl refl
