use Rattle.std.proofs.Common.{[], ◌∷◌, ◌++◌, refl, inl, inr, arith}
use Rattle.working.specs.Example.{pairs, start}
use Rattle.callers.specs.Example.{a_call_of_eight, a_call_of_seven, eight_comes, eight_is_handed, seven_comes, seven_is_handed, seven_unlocks}
use Rattle.callers.specs.Worlds.{begun_caller}
use Rattle.callers.proofs.Example.{is_one, true_then}
use Rattle.callers.proofs.laws.another_call_works.Goals as goal

pub returns-clause-seven : goal.returns-clause-seven
returns-clause-seven c =
    true_then 100 80 90 7 pairs start (begun_caller 0) seven_comes (seven_is_handed ∷ a_call_of_eight) (grind arith)
    ((λ may. record { quorum = 0 ∷ 1 ∷ []; is_quorum = inl refl; counts = ((refl, refl, 189, refl, (omega arith)), ((refl, refl, 189, refl, (omega arith)), tt)) }), (tt, (refl, (grind arith))))

pub returns-clause-eight : goal.returns-clause-eight
returns-clause-eight c =
    true_then 100 80 90 8 pairs start (begun_caller 0) (a_call_of_seven ++ seven_unlocks ++ eight_comes) eight_is_handed (grind arith) (
      (λ may. record { quorum = 1 ∷ 2 ∷ []; is_quorum = inr (inl refl); counts = ((refl, refl, 306, refl, (omega arith)), ((refl, refl, 306, refl, (omega arith)), tt)) }),
      ((λ request has. record { quorum = 1 ∷ 2 ∷ []; is_quorum = inr (inl refl); counts = ((refl, is_one 1 request has.0 has.1 has.2, 306, refl, (omega arith)), ((refl, is_one 1 request has.0 has.1 has.2, 306, refl, (omega arith)), tt)) }), tt),
    )
