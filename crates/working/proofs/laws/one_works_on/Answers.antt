use Rattle.std.proofs.Common.{[], ◌∷◌, refl, inl}
use Rattle.working.proofs.laws.one_works_on.Goals as goal

pub returns-clause-works : goal.returns-clause-works
returns-clause-works c = record { quorum = 0 ∷ 1 ∷ []; is_quorum = inl refl; works = refl }
