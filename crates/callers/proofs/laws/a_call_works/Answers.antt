use Rattle.std.proofs.Common.{[], ◌∷◌, refl, inl, arith}
use Rattle.working.proofs.Example.{meet}
use Rattle.working.specs.Example.{pairs, start}
use Rattle.callers.specs.Example.{seven_comes, seven_is_handed}
use Rattle.callers.specs.Worlds.{begun_caller}
use Rattle.callers.proofs.Example.{true_then}
use Rattle.callers.proofs.laws.a_call_works.Goals as goal

pub returns-clause-meet : goal.returns-clause-meet
returns-clause-meet c = meet

pub returns-clause-seven : goal.returns-clause-seven
returns-clause-seven c =
    true_then 100 80 90 7 pairs start (begun_caller 0) seven_comes (seven_is_handed ∷ []) (grind arith)
    ((λ may. record { quorum = 0 ∷ 1 ∷ []; is_quorum = inl refl; counts = ((refl, refl, 189, refl, (omega arith)), ((refl, refl, 189, refl, (omega arith)), tt)) }), tt)
