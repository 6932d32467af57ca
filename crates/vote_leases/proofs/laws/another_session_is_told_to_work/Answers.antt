use Rattle.std.proofs.Common.{[], ◌∷◌, refl, inl, inr, arith}
use Rattle.vote_leases.proofs.laws.another_session_is_told_to_work.Goals as goal

pub returns-clause-works : goal.returns-clause-works
returns-clause-works c = record {
  quorum = 1 ∷ 2 ∷ [];
  is_quorum = inr (inl refl);
  counts = ((refl, refl, 306, refl, (omega arith)), ((refl, refl, 306, refl, (omega arith)), tt));
}
