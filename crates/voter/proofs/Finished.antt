-- how finished stamps change
use Rattle.std.proofs.Common.{◌≡◌, ℕ, ◌<◌, ◌≤◌, Bool, true, false, List, Option, Some, None, refl, sym, ap, subst, ◌∙◌, ◌⊎◌, inl, inr, arith, length}
use Rattle.std.specs.Prelude.{slice_index, slice_set, max}
use Rattle.std.proofs.lemmas.Bool.Decides.{nat_tests}
use Rattle.std.proofs.lemmas.List.{get_or-set_same, get_or-set_other, length-set, set_past}
use Rattle.std.proofs.lemmas.Bool.{cases_lt, cases_eq}
use Rattle.message.specs.declared.request.Request.{Request}
use Rattle.message.specs.declared.message.ToVoter.{ToVoter}
use Rattle.message.specs.declared.message.VoterBody.{VoterBody}
use Rattle.message.specs.declared.message.VoterBody.TheVariants as asks
use Rattle.voter.specs.declared.state.Grant.{Grant}
use Rattle.voter.specs.declared.state.VoterState.{VoterState}
use Rattle.voter.specs.Waiting.{front}
use Rattle.voter.specs.Steps.{grant_to, grant_front, take_release, join_queue, join_queue_by, admit, queue, free_vote, finish, take_request}
use Rattle.voter.specs.Steps.{see, outcome_of, Outcome, step}
use Rattle.voter.specs.Entries.{FinishesBy}
use Rattle.voter.proofs.Cases.{by_admit, by_release, by_relinquish, by_request}
use Rattle.voter.proofs.Effects.{step-Some}

-- the finished stamps stay
abbrev pub SameFinished : VoterState → VoterState → Type 0
SameFinished v w = w.finished ≡ v.finished

same-grant_to : (v : VoterState) (o : Option Request) → SameFinished v (grant_to v o).state
same-grant_to v None = refl
same-grant_to v (Some r) = refl

pub same-grant_front : (v : VoterState) → SameFinished v (grant_front v).state
unfolding grant_front
same-grant_front v = same-grant_to v (front v.waiting)

same-join_queue_by : (waits granted : Bool) (v : VoterState) (g : Grant) (c s : ℕ) → SameFinished v (join_queue_by waits granted v g c s).state
same-join_queue_by false true v g c s = refl
same-join_queue_by waits granted v g c s = refl

pub same-admit : (v : VoterState) (c s : ℕ) → SameFinished v (admit v c s).state
unfolding join_queue
same-admit v c s = by_admit (λ o. SameFinished v o.state) v c s (λ _. same-grant_front (queue v c s)) (λ g _. same-join_queue_by _ _ v g c s)

pub finished-take_release : (v : VoterState) (c s : ℕ) → (take_release v c s).state.finished ≡ (finish v c s).finished
finished-take_release v c s = by_release (λ o. o.state.finished ≡ (finish v c s).finished) v c s (λ _. same-grant_front (free_vote (finish v c s))) (λ _ _. refl) (λ _ _. refl)

places-take_release : (v : VoterState) (c s : ℕ) → length (take_release v c s).state.finished ≡ length v.finished
places-take_release v c s = ap (λ (l : List ℕ). length l) (finished-take_release v c s) ∙ length-set v.finished c (max (slice_index v.finished c) s)

max_cases : (a b : ℕ) → (max a b ≡ a) ⊎ ((max a b ≡ b) × (a ≤ b))
max_cases a b = elim (cases_lt a b) [ inl less ↦ inr (grind (arith, nat_tests), omega arith) | inr least ↦ inl (grind (arith, nat_tests)) ]

finish_cases : (xs : List ℕ) (c s d : ℕ) → (slice_index (slice_set xs c (max (slice_index xs c) s)) d ≡ slice_index xs d)
    ⊎ ((d ≡ c) × (slice_index (slice_set xs c (max (slice_index xs c) s)) d ≡ s) × (slice_index xs d ≤ s))
finish_cases xs c s d =
    let top = max (slice_index xs c) s in
    elim (cases_eq d c) [
      | inr other ↦ inl (get_or-set_other xs c d top 0 other)
      | inl same ↦ elim (cases_lt c (length xs)) [
        | inr past ↦ inl (ap (λ (l : List ℕ). slice_index l d) (set_past xs c top past))
        | inl within ↦
            let here : slice_index (slice_set xs c top) d ≡ top = ap (λ n. slice_index (slice_set xs c top) n) same ∙ get_or-set_same xs c top 0 within in
            elim (max_cases (slice_index xs c) s) [
              | inl old ↦ inl (here ∙ old ∙ ap (slice_index xs) (sym same))
              | inr new ↦ inr (same, here ∙ new.0, subst (λ n. slice_index xs n ≤ s) (sym same) new.1)
            ]
      ]
    ]

-- a release finishes at most up to its stamp
released_cases : (v : VoterState) (c s d : ℕ) → (slice_index (take_release v c s).state.finished d ≡ slice_index v.finished d)
    ⊎ ((d ≡ c) × (slice_index (take_release v c s).state.finished d ≡ s) × (slice_index v.finished d ≤ s))
released_cases v c s d = subst (λ (l : List ℕ). (slice_index l d ≡ slice_index v.finished d) ⊎ ((d ≡ c) × (slice_index l d ≡ s) × (slice_index v.finished d ≤ s))) (sym (finished-take_release v c s)) (finish_cases v.finished c s d)

finished-take_request : (v : VoterState) (c s : ℕ) → FinishesBy v c (asks.Request s) (take_request v c s).state
finished-take_request v c s = by_request (λ o. FinishesBy v c (asks.Request s) o.state) v c s (record {
  stale = λ _ d. inl refl;
  repeated = λ _ d. inl refl;
  only = λ _ _ d. inl (ap (λ (l : List ℕ). slice_index l d) (same-admit v c s));
  newer = λ _ t _ less d.
      let w = (take_release v c t).state in
      subst (λ (l : List ℕ). (slice_index l d ≡ slice_index v.finished d) ⊎ (((d ≡ c) × (slice_index l d < s)) × (slice_index v.finished d ≤ slice_index l d))) (sym (same-admit w c s)) (elim (released_cases v c t d) [
        | inl stays ↦ inl stays
        | inr new ↦ let is = new.1 in let up = new.2 in inr ((new.0, omega arith), omega arith)
      ]);
})

-- the number of finished stamps stays
pub places-outcome_of : (v : VoterState) (c : ℕ) (b : VoterBody) → length (outcome_of v c b).state.finished ≡ length v.finished
places-outcome_of v c (asks.Request s) = by_request (λ o. length o.state.finished ≡ length v.finished) (see v s) c s (record {
  stale = λ _. refl;
  repeated = λ _. refl;
  only = λ _ _. ap (λ (l : List ℕ). length l) (same-admit (see v s) c s);
  newer = λ _ t _ _. ap (λ (l : List ℕ). length l) (same-admit (take_release (see v s) c t).state c s) ∙ places-take_release (see v s) c t;
})
places-outcome_of v c (asks.Relinquish n) =
    ap (λ (l : List ℕ). length l) (by_relinquish (λ o. SameFinished v o.state) v c n refl (λ g _. same-grant_front (queue (free_vote v) g.client g.stamp)))
places-outcome_of v c (asks.Release s) = places-take_release (see v s) c s

pub FinishesBy-outcome_of : (v : VoterState) (c : ℕ) (b : VoterBody) → FinishesBy v c b (outcome_of v c b).state
FinishesBy-outcome_of v c (asks.Request s) d = finished-take_request (see v s) c s d
FinishesBy-outcome_of v c (asks.Relinquish n) d =
    inl (ap (λ (l : List ℕ). slice_index l d) (by_relinquish (λ o. SameFinished v o.state) v c n refl (λ g _. same-grant_front (queue (free_vote v) g.client g.stamp))))
FinishesBy-outcome_of v c (asks.Release s) d = elim (released_cases (see v s) c s d) [ inl stays ↦ inl stays | inr new ↦ let is = new.1 in let up = new.2 in inr ((new.0, omega arith), omega arith) ]

pub FinishesBy-step : (v : VoterState) (m : ToVoter) (o : Outcome) → step v m ≡ Some o → FinishesBy v m.client m.body o.state
FinishesBy-step v m o e = let t = step-Some v m o e in subst (λ (p : Outcome). FinishesBy v m.client m.body p.state) t.1 (FinishesBy-outcome_of v m.client m.body)
