-- a voter with a waiting request that precedes has asked for its vote
use Rattle.std.proofs.Common.{◌≡◌, ℕ, ◌+◌, Bool, true, false, List, Option, Some, None, refl, sym, ap, subst, ◌∙◌, ◌⊎◌, inl, inr, arith}
use Rattle.std.specs.FinMap.{entries, entries_sorted, get, insert, remove, get-entries}
use Rattle.std.specs.FinMap.Entries.{find}
use Rattle.std.specs.Ordering.{nat_cmp}
use Rattle.std.proofs.lemmas.Bool.Decides.{nat_tests}
use Rattle.std.proofs.lemmas.Bool.{false≢true}
use Rattle.std.proofs.lemmas.Option.{none-some, same_Some}
use Rattle.message.specs.declared.request.Request.{Request}
use Rattle.message.specs.declared.message.ToVoter.{ToVoter}
use Rattle.message.specs.declared.message.VoterBody.{VoterBody}
use Rattle.message.specs.declared.message.VoterBody.TheVariants as asks
use Rattle.voter.specs.declared.state.Grant.{Grant}
use Rattle.voter.specs.declared.state.VoterState.{VoterState}
use Rattle.message.specs.Requests.{precedes}
use Rattle.voter.specs.Waiting.{Waiting, least, front}
use Rattle.voter.specs.Steps.{grant_to, grant_front, take_release, join_queue, join_queue_by, admit, queue, free_vote, finish, is_before, start, take_request}
use Rattle.voter.specs.Steps.{see, outcome_of, Outcome, step}
use Rattle.voter.specs.Entries.{AsksBack, request_of}
use Rattle.voter.proofs.Cases.{by_admit, by_release, by_relinquish, by_request}
use Rattle.voter.proofs.Front.{IsLeastOf, least-is, front-found}
use Rattle.voter.proofs.Soundness.{get-removed, get-inserted}
use Rattle.voter.proofs.Effects.{step-Some}

least_first : (es : List (ℕ × ℕ)) (o : Option Request) (r : Request) → IsLeastOf es o → o ≡ Some r → (c s : ℕ) → find nat_cmp c es ≡ Some s → precedes (record { stamp = s; client = c }) r ≡ false
unfolding IsLeastOf
least_first es None r h is c s found = absurd (none-some r is)
least_first es (Some q) r h is c s found = subst (λ (x : Request). precedes (record { stamp = s; client = c }) x ≡ false) (same_Some q r is) (h.first c s found)

-- no request that waits precedes the front
pub front-first : (w : Waiting) (r : Request) → front w ≡ Some r → (c s : ℕ) → get w c ≡ Some s → precedes (record { stamp = s; client = c }) r ≡ false
unfolding front
front-first w r is c s found = least_first (entries w) (least (entries w)) r (least-is (entries w) (entries_sorted w)) is c s (sym (get-entries w c) ∙ found)

pub still_removed : (w : Waiting) (c d t : ℕ) → get (remove w c) d ≡ Some t → get w d ≡ Some t
still_removed w c d t is = let e = get-removed w c d in grind (arith, nat_tests)

pub inserted_cases : (w : Waiting) (c s d t : ℕ) → get (insert w c s) d ≡ Some t → ((d ≡ c) × (t ≡ s)) ⊎ (get w d ≡ Some t)
inserted_cases w c s d t is = let e = get-inserted w c s d in grind (arith, nat_tests)

asked-grant_to : (v : VoterState) (o : Option Request) → front v.waiting ≡ o → v.held ≡ None → AsksBack (grant_to v o).state
asked-grant_to v None is free g d t held waits before = absurd (none-some g (sym free ∙ held))
asked-grant_to v (Some r) is free g d t held waits before =
    let new : Grant = record { client = r.client; stamp = r.stamp; grant = v.granted + 1 } in
    let first = front-first v.waiting r is d t (still_removed v.waiting r.client d t waits) in
    let same : request_of g ≡ r = sym (ap request_of (same_Some new g held)) in
    absurd (false≢true (sym first ∙ subst (λ (x : Request). precedes (record { stamp = t; client = d }) x ≡ true) same before))

asked-grant_front : (v : VoterState) → v.held ≡ None → AsksBack (grant_front v).state
unfolding grant_front
asked-grant_front v free = asked-grant_to v (front v.waiting) refl free

asked-take_release : (v : VoterState) (c s : ℕ) → AsksBack v → AsksBack (take_release v c s).state
asked-take_release v c s h = by_release (λ o. AsksBack o.state) v c s (λ _. asked-grant_front (free_vote (finish v c s)) refl)
    (λ _ _ g d t held is before. h g d t held (still_removed v.waiting c d t is) before) (λ _ _. h)

before_all : (o : Option Request) (r : Request) → is_before o r ≡ true → (q : Request) × (o ≡ Some q) × (precedes q r ≡ true)
before_all None r e = absurd (false≢true e)
before_all (Some q) r e = (q, refl, e)

asked-join_queue_by : (waits granted : Bool) (v : VoterState) (g : Grant) (c s : ℕ) → v.held ≡ Some g → is_before (front v.waiting) (record { stamp = s; client = c }) ≡ waits
    → precedes (request_of g) (record { stamp = s; client = c }) ≡ granted
    → AsksBack v → AsksBack (join_queue_by waits granted v g c s).state
asked-join_queue_by true granted v g c s is e f h k d t held waits before = elim (inserted_cases v.waiting c s d t waits) [
  | inl new ↦
      let first = before_all (front v.waiting) _ e in
      let found = front-found v.waiting first.0 first.1 in
      let earlier : precedes first.0 (request_of k) ≡ true = (let a = first.2 in let b = new.0 in let b2 = new.1 in grind (arith, nat_tests)) in
      h k first.0.client first.0.stamp held found earlier
  | inr old ↦ h k d t held old before
]
asked-join_queue_by false true v g c s is e f h k d t held waits before = elim (inserted_cases v.waiting c s d t waits) [
  | inl new ↦
      let same : request_of g ≡ request_of k = ap request_of (same_Some g k (sym is ∙ held)) in
      let later : precedes (request_of k) (record { stamp = s; client = c }) ≡ true = subst (λ (x : Request). precedes x (record { stamp = s; client = c }) ≡ true) same f in
      (let b = new.0 in let b2 = new.1 in grind (arith, nat_tests))
  | inr old ↦ h k d t held old before
]
asked-join_queue_by false false v g c s is e f h k d t held waits before = refl

asked-admit : (v : VoterState) (c s : ℕ) → AsksBack v → AsksBack (admit v c s).state
unfolding join_queue
asked-admit v c s h = by_admit (λ o. AsksBack o.state) v c s (asked-grant_front (queue v c s)) (λ g is. asked-join_queue_by _ _ v g c s is refl refl h)

asked-take_request : (v : VoterState) (c s : ℕ) → AsksBack v → AsksBack (take_request v c s).state
asked-take_request v c s h = by_request (λ o. AsksBack o.state) v c s (record {
  stale = λ _. h;
  repeated = λ _. h;
  only = λ _ _. asked-admit v c s h;
  newer = λ _ t _ _. asked-admit (take_release v c t).state c s (asked-take_release v c t h);
})

pub AsksBack-outcome_of : (v : VoterState) (c : ℕ) (b : VoterBody) → AsksBack v → AsksBack (outcome_of v c b).state
AsksBack-outcome_of v c (asks.Request s) h = asked-take_request (see v s) c s h
AsksBack-outcome_of v c (asks.Relinquish n) h = by_relinquish (λ o. AsksBack o.state) v c n h (λ g _. asked-grant_front (queue (free_vote v) g.client g.stamp) refl)
AsksBack-outcome_of v c (asks.Release s) h = asked-take_release (see v s) c s h

pub AsksBack-step : (v : VoterState) (m : ToVoter) (o : Outcome) → AsksBack v → step v m ≡ Some o → AsksBack o.state
AsksBack-step v m o h e = let t = step-Some v m o e in subst (λ (p : Outcome). AsksBack p.state) t.1 (AsksBack-outcome_of v m.client m.body h)

pub AsksBack-start : (id limit : ℕ) → AsksBack (start id limit)
AsksBack-start id limit g c s held waits before = absurd (none-some g held)
