use Rattle.std.proofs.Common.{false, refl, inl, inr, arith}
use Rattle.std.proofs.lemmas.Bool.{false≢true}
use Rattle.requester.specs.Steps.{ask, leave, take, take_locked}
use Rattle.working.specs.Voters.{grant_of}
use Rattle.client_node.proofs.Example.{others_are_set, own_leases, own_of_eight, two_are_set}
use Rattle.client_node.proofs.laws.another_call_works.Goals as goal

pub returns-clause-seven : goal.returns-clause-seven
unfolding ask leave take take_locked
returns-clause-seven c =
    (tt, ((inl refl, two_are_set, (omega arith)), (tt, (tt, (tt, (tt, (tt, (tt, (tt, (tt, (tt, (tt, (tt, (tt, ((refl, (omega arith), own_leases _ refl refl, refl, (record { grant = grant_of 7 1 1; lapses = 0; renews = false }, refl, refl, λ re run. absurd (false≢true re))), ((refl, (omega arith), own_leases _ refl refl, refl, (record { grant = grant_of 7 1 1; lapses = 0; renews = false }, refl, refl, λ re run. absurd (false≢true re))), (own_leases _ refl refl, (tt, (tt, (tt, (tt, (tt, (tt, (tt, (tt, (tt, (tt, (tt, (tt, (tt, (tt, (tt, (tt, (tt, (tt, (tt, (tt, (tt, (tt, (tt, (tt, (tt, (tt, tt)))))))))))))))))))))))))))))))))))))))))))

pub returns-clause-eight : goal.returns-clause-eight
unfolding ask leave take take_locked
returns-clause-eight c =
    (tt, (tt, (tt, (tt, (tt, (tt, (tt, (tt, (tt, (tt, (tt, (tt, (tt, (tt, (tt, (tt, (tt, (tt, (tt, (tt, (tt, (tt, (tt, (tt, (tt, (tt, (tt, (tt, (tt, (tt, ((inr (inl refl), others_are_set, (omega arith)), (tt, (tt, (tt, (tt, (tt, (tt, (tt, (tt, ((refl, (omega arith), own_of_eight _ refl refl refl, refl, (record { grant = grant_of 8 1 2; lapses = 0; renews = false }, refl, refl, λ re run. absurd (false≢true re))), ((refl, (omega arith), own_of_eight _ refl refl refl, refl, (record { grant = grant_of 8 1 1; lapses = 0; renews = false }, refl, refl, λ re run. absurd (false≢true re))), (own_of_eight _ refl refl refl, (own_of_eight _ refl refl refl, tt)))))))))))))))))))))))))))))))))))))))))))
