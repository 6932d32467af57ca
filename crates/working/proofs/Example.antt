-- the quorums of the example meet
use Rattle.std.proofs.Common.{ℕ, List, refl, sym, subst, inl, inr}
use Rattle.working.specs.Events.{DoMeet, IsOneOf}
use Rattle.working.specs.Example.{pairs}

has_one : (p : List ℕ) → IsOneOf p pairs → IsOneOf 1 p
has_one p among = elim among [
  | inl e ↦ subst (λ (q : List ℕ). IsOneOf 1 q) (sym e) (inr (inl refl))
  | inr rest ↦ elim rest [
    | inl e ↦ subst (λ (q : List ℕ). IsOneOf 1 q) (sym e) (inl refl)
    | inr none ↦ absurd none
  ]
]

pub meet : DoMeet pairs
meet p q in_p in_q = (1, has_one p in_p, has_one q in_q)
