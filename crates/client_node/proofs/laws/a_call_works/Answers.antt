use Rattle.std.proofs.Common.{false, refl, inl, arith}
use Rattle.std.proofs.lemmas.Bool.{false≢true}
use Rattle.requester.specs.Steps.{ask, take, take_locked}
use Rattle.working.specs.Voters.{grant_of}
use Rattle.working.proofs.Example.{meet}
use Rattle.client_node.proofs.Example.{own_leases, two_are_set}
use Rattle.client_node.proofs.laws.a_call_works.Goals as goal

pub returns-clause-meet : goal.returns-clause-meet
returns-clause-meet c = meet

pub returns-clause-seven : goal.returns-clause-seven
unfolding ask take take_locked
returns-clause-seven c = (
  tt,
  (
    (inl refl, two_are_set, (omega arith)),
    (
      tt,
      (
        tt,
        (
          tt,
          (
            tt,
            (
              tt,
              (
                tt,
                (
                  tt,
                  (
                    tt,
                    (
                      tt,
                      (
                        tt,
                        (
                          tt,
                          (
                            tt,
                            (
                              (refl, (omega arith), own_leases _ refl refl, refl, (record { grant = grant_of 7 1 1; lapses = 0; renews = false }, refl, refl, λ re run. absurd (false≢true re))),
                              (
                                (refl, (omega arith), own_leases _ refl refl, refl, (record { grant = grant_of 7 1 1; lapses = 0; renews = false }, refl, refl, λ re run. absurd (false≢true re))),
                                (own_leases _ refl refl, tt),
                              ),
                            ),
                          ),
                        ),
                      ),
                    ),
                  ),
                ),
              ),
            ),
          ),
        ),
      ),
    ),
  ),
)
