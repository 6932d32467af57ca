-- the step, and what it would do
use Rattle.std.proofs.Common.{◌≡◌, ℕ, ◌<◌, Bool, true, false, Option, Some, None, refl, sym, ap, ◌∙◌, inl, inr, arith, subst}
use Rattle.std.specs.Prelude.{is_some, ◌&&◌, nat_lt}
use Rattle.std.proofs.lemmas.Bool.Decides.{nat_tests}
use Rattle.message.specs.declared.message.ToVoter.{ToVoter}
use Rattle.message.specs.declared.message.VoterBody.{VoterBody}
use Rattle.message.specs.declared.message.VoterBody.TheVariants as asks
use Rattle.voter.specs.declared.state.Grant.{Grant}
use Rattle.voter.specs.declared.state.Effect.{Effect}
use Rattle.voter.specs.declared.state.VoterState.{VoterState}
use Rattle.voter.specs.VoteMoves.{VoteMoves}
use Rattle.voter.specs.Steps.{Outcome, IsSound, step, unless_spent, outcome_of, is_refused, ends_grant, effect_of, effect_by, is_ended, held_stamp, is_older, is_up_to}
use Rattle.voter.proofs.Grants.{granted-outcome_of, some_grant}
use Rattle.voter.proofs.Moves.{VoteMoves-outcome_of}
use Rattle.voter.proofs.Soundness.{IsSound-outcome_of}
use Rattle.std.proofs.lemmas.Option.{none-some, same_Some}

pub step-refused : (v : VoterState) (m : ToVoter) → IsSound v → is_refused v m ≡ true → step v m ≡ None
unfolding step
step-refused v m sound spent =
    let g = granted-outcome_of v m.client m.body in
    let s = sound.granted in
    let over : nat_lt v.limit (outcome_of v m.client m.body).state.granted ≡ true = grind (arith, nat_tests) in
    ap (λ b. unless_spent b (outcome_of v m.client m.body)) over

pub step-taken : (v : VoterState) (m : ToVoter) → IsSound v → is_refused v m ≡ false → step v m ≡ Some (outcome_of v m.client m.body)
unfolding step
step-taken v m sound enough =
    let g = granted-outcome_of v m.client m.body in
    let s = sound.granted in
    let within : nat_lt v.limit (outcome_of v m.client m.body).state.granted ≡ false = grind (arith, nat_tests) in
    ap (λ b. unless_spent b (outcome_of v m.client m.body)) within

ended_none : (o : Option Grant) → is_ended o None ≡ is_some o
ended_none None = refl
ended_none (Some g) = refl

ended_new : (o : Option Grant) (new : Grant) → ((g : Grant) → o ≡ Some g → g.grant < new.grant) → is_ended o (Some new) ≡ is_some o
ended_new None new below = refl
ended_new (Some g) new below = let less = below g refl in grind (arith, nat_tests)

ended_same : (o : Option Grant) → is_ended o o ≡ false
ended_same None = refl
ended_same (Some g) = grind (arith, nat_tests)

ended_by : (e : Bool) (v w : VoterState) → IsSound v → (e ≡ true → is_some v.held ≡ true) → VoteMoves e v w → is_ended v.held w.held ≡ e
ended_by true v w sound some (inl k) = ap (is_ended v.held) k.held ∙ ended_none v.held ∙ some refl
ended_by true v w sound some (inr k) = ap (is_ended v.held) k.held ∙ ended_new v.held k.grant (λ g is. let below = sound.numbered g is in let number = k.number in omega arith) ∙ some refl
ended_by false v w sound some (inl k) = ap (is_ended v.held) k.held ∙ ended_same v.held
ended_by false v w sound some (inr k) = ap (λ (o : Option Grant). is_ended o w.held) k.0

some_older : (o : Option Grant) (c s : ℕ) (b : Bool) → (b && is_older (held_stamp o c) s) ≡ true → is_some o ≡ true
some_older None c s b e = grind (arith, nat_tests)
some_older (Some g) c s b e = refl

some_up_to : (o : Option Grant) (c s : ℕ) → is_up_to (held_stamp o c) s ≡ true → is_some o ≡ true
some_up_to None c s e = e
some_up_to (Some g) c s e = refl

pub held-from_ends_grant : (v : VoterState) (c : ℕ) (b : VoterBody) → ends_grant v c b ≡ true → is_some v.held ≡ true
unfolding ends_grant
held-from_ends_grant v c (asks.Request s) e = some_older v.held c s _ e
held-from_ends_grant v c (asks.Relinquish n) e = some_grant v.held c n e
held-from_ends_grant v c (asks.Release s) e = some_up_to v.held c s e

pub is_ended-outcome_of : (v : VoterState) (c : ℕ) (b : VoterBody) → IsSound v → is_ended v.held (outcome_of v c b).state.held ≡ ends_grant v c b
is_ended-outcome_of v c b sound = ended_by (ends_grant v c b) v (outcome_of v c b).state sound (held-from_ends_grant v c b) (VoteMoves-outcome_of v c b)

pub effect_of-refused : (v : VoterState) (m : ToVoter) → IsSound v → is_refused v m ≡ true → effect_of v m ≡ record { frees = false; refused = true }
unfolding effect_of
effect_of-refused v m sound spent = ap (effect_by v) (step-refused v m sound spent)

pub effect_of-taken : (v : VoterState) (m : ToVoter) → IsSound v → is_refused v m ≡ false → effect_of v m ≡ record { frees = ends_grant v m.client m.body; refused = false }
unfolding effect_of
effect_of-taken v m sound enough = ap (effect_by v) (step-taken v m sound enough) ∙ (λ i. record { frees = is_ended-outcome_of v m.client m.body sound i; refused = false })

-- A step that is taken.

unspent_by : (b : Bool) (o p : Outcome) → unless_spent b o ≡ Some p → (b ≡ false) × (o ≡ p)
unspent_by true o p e = absurd (none-some p e)
unspent_by false o p e = (refl, same_Some o p e)

pub step-Some : (v : VoterState) (m : ToVoter) (o : Outcome) → step v m ≡ Some o → (nat_lt v.limit (outcome_of v m.client m.body).state.granted ≡ false) × (outcome_of v m.client m.body ≡ o)
unfolding step
step-Some v m o e = unspent_by _ (outcome_of v m.client m.body) o e

not_refused : (v : VoterState) (m : ToVoter) → nat_lt v.limit (outcome_of v m.client m.body).state.granted ≡ false → is_refused v m ≡ false
not_refused v m within = let g = granted-outcome_of v m.client m.body in grind (arith, nat_tests)

pub IsSound-step : (v : VoterState) (m : ToVoter) (o : Outcome) → IsSound v → step v m ≡ Some o → IsSound o.state
IsSound-step v m o sound e =
    let t = step-Some v m o e in
    subst (λ (p : Outcome). IsSound p.state) t.1 (IsSound-outcome_of v m sound (not_refused v m t.0))

pub VoteMoves-step : (v : VoterState) (m : ToVoter) (o : Outcome) → IsSound v → step v m ≡ Some o → VoteMoves (effect_of v m).frees v o.state
VoteMoves-step v m o sound e =
    let t = step-Some v m o e in
    let f : (effect_of v m).frees ≡ ends_grant v m.client m.body = ap (λ (x : Effect). x.frees) (effect_of-taken v m sound (not_refused v m t.0)) in
    subst (λ (p : Outcome). VoteMoves (effect_of v m).frees v p.state) t.1 (subst (λ b. VoteMoves b v (outcome_of v m.client m.body).state) (sym f) (VoteMoves-outcome_of v m.client m.body))
