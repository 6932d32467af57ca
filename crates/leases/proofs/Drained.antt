-- requests that are finished stay out
use Rattle.std.proofs.Common.{◌≡◌, ℕ, ◌≤◌, Some, refl, sym, ap, subst, ◌∙◌, inl, inr, arith}
use Rattle.std.proofs.lemmas.Bool.{cases_eq}
use Rattle.message.specs.declared.message.ToVoter.{ToVoter}
use Rattle.message.specs.declared.message.VoterBody.{VoterBody}
use Rattle.message.specs.declared.message.VoterBody.TheVariants as asks
use Rattle.voter.specs.declared.state.VoterState.{VoterState}
use Rattle.voter.specs.Steps.{Outcome, outcome_of, see, step, take_request}
use Rattle.voter.specs.VoterContract.{Brings}
use Rattle.voter.proofs.Cases.{by_request}
use Rattle.voter.proofs.Effects.{step-Some}
use Rattle.voter.proofs.Finished.{FinishesBy-step}
use Rattle.world.specs.Rules.{VoterLaws}
use Rattle.leases.specs.Drained.{AsksNoMore, IsFinishedUpTo}

-- ---- who is out stays out

-- a REQUEST that is finished changes nothing
late_request : (v : VoterState) (c s t : ℕ) → t ≤ s → IsFinishedUpTo v c s → IsFinishedUpTo (take_request (see v t) c t).state c s
late_request v c s t late out =
    let done = out.finished in
    by_request (λ o. IsFinishedUpTo o.state c s) (see v t) c t (record {
      stale = λ _. record { finished = out.finished; gone = out.gone };
      repeated = λ _. record { finished = out.finished; gone = out.gone };
      only = λ new _. absurd (omega arith);
      newer = λ new u _ less. absurd (omega arith);
    })

-- a message that is no REQUEST of this client
others_out : VoterLaws → (v : VoterState) (m : ToVoter) (o : Outcome) (c s : ℕ) → step v m ≡ Some o → IsFinishedUpTo v c s → (body : VoterBody) → m.body ≡ body → ((t : ℕ) → Brings m.client body c t → ⊥) → IsFinishedUpTo o.state c s
others_out laws v m o c s is out body at other = record {
  finished = (let low = out.finished in elim (FinishesBy-step v m o is c) [ inl same ↦ omega arith | inr more ↦ let up = more.1 in omega arith ]);
  gone = λ t e. elim ((laws.meets v m o is).entries c t e) [
    | inl was ↦ out.gone t was
    | inr brings ↦ absurd (other t (subst (λ (b : VoterBody). Brings m.client b c t) at brings))
  ];
}

by_body : VoterLaws → (v : VoterState) (m : ToVoter) (o : Outcome) (c s : ℕ) → step v m ≡ Some o → IsFinishedUpTo v c s → (body : VoterBody) → m.body ≡ body → AsksNoMore c s m.client body → IsFinishedUpTo o.state c s
by_body laws v m o c s is out (asks.Request t) at asks_none = elim (cases_eq m.client c) [
  | inl own ↦
      let e = (step-Some v m o is).1 in
      let taken : (take_request (see v t) c t) ≡ o = ap (λ k. take_request (see v t) k t) (sym own) ∙ ap (λ (b : VoterBody). outcome_of v m.client b) (sym at) ∙ e in
      subst (λ (p : Outcome). IsFinishedUpTo p.state c s) taken (late_request v c s t (asks_none own) out)
  | inr apart ↦ others_out laws v m o c s is out (asks.Request t) at (λ u brings. apart (sym brings.0))
]
by_body laws v m o c s is out (asks.Relinquish g) at asks_none = others_out laws v m o c s is out (asks.Relinquish g) at (λ u brings. brings)
by_body laws v m o c s is out (asks.Release t) at asks_none = others_out laws v m o c s is out (asks.Release t) at (λ u brings. brings)

pub stays_out : VoterLaws → (v : VoterState) (m : ToVoter) (o : Outcome) (c s : ℕ) → step v m ≡ Some o → IsFinishedUpTo v c s → AsksNoMore c s m.client m.body → IsFinishedUpTo o.state c s
stays_out laws v m o c s is out asks_none = by_body laws v m o c s is out m.body refl asks_none
