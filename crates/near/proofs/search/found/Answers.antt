use Rattle.std.proofs.Common.{inl, inr, sym, ap, subst, ◌∙◌}
use Rattle.certificate.specs.Certificates.{Weighted}
use Rattle.planner.specs.Weights.{HaveNoCommonDivisor}
use Rattle.near.proofs.search.found.Goals as goal

pub returns-then-not-fit-clause-lowest : goal.returns-then-not-fit-clause-lowest
returns-then-not-fit-clause-lowest c =
    let same = ap (λ (w : Weighted). w.voter_weights) c.in_ok-first.ensures ∙ c.deref-2.ensures.value in
    subst HaveNoCommonDivisor (sym same) c.in_ok-voters.ensures.lowest

pub returns-clause-lowest : goal.returns-clause-lowest
returns-clause-lowest c =
    let first = ap (λ (w : Weighted). w.voter_weights) c.in_ok-first.ensures ∙ c.deref-2.ensures.value in
    let second = ap (λ (w : Weighted). w.voter_weights) c.in_ok-second.ensures ∙ c.deref-5.ensures.value in
    elim c.better_of.ensures.one as (λ _. HaveNoCommonDivisor c.better_of.result.voter_weights) [
      | inl is ↦ subst HaveNoCommonDivisor (sym (ap (λ (w : Weighted). w.voter_weights) is ∙ first)) c.in_ok-voters.ensures.lowest
      | inr is ↦ subst HaveNoCommonDivisor (sym (ap (λ (w : Weighted). w.voter_weights) is ∙ second)) c.in_ok-voters.ensures.lowest
    ]
