use Rattle.std.proofs.Common.{[], ◌∷◌, refl, inl, inr}
use Rattle.working.proofs.Example.{meet}
use Rattle.working.proofs.laws.one_works_after_another.Goals as goal

pub returns-clause-meet : goal.returns-clause-meet
returns-clause-meet c = meet

pub returns-clause-first : goal.returns-clause-first
returns-clause-first c = record { quorum = 0 ∷ 1 ∷ []; is_quorum = inl refl; works = refl }

pub returns-clause-second : goal.returns-clause-second
returns-clause-second c = record { quorum = 1 ∷ 2 ∷ []; is_quorum = inr (inl refl); works = refl }
