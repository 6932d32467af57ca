use Rattle.std.proofs.Common.{[], ◌∷◌, refl, inl, arith}
use Rattle.working.proofs.Example.{meet}
use Rattle.vote_leases.proofs.laws.a_session_is_told_to_work.Goals as goal

pub returns-clause-meet : goal.returns-clause-meet
returns-clause-meet c = meet

pub returns-clause-works : goal.returns-clause-works
returns-clause-works c = record {
  quorum = 0 ∷ 1 ∷ [];
  is_quorum = inl refl;
  counts = ((refl, refl, 189, refl, (omega arith)), ((refl, refl, 189, refl, (omega arith)), tt));
}

pub returns-clause-works_on : goal.returns-clause-works_on
returns-clause-works_on c = record {
  quorum = 0 ∷ 1 ∷ [];
  is_quorum = inl refl;
  counts = ((refl, refl, 297, refl, (omega arith)), ((refl, refl, 297, refl, (omega arith)), tt));
}
