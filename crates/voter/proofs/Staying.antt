-- which requests stay, and which of them gets the vote
use Rattle.std.proofs.Common.{◌≡◌, ◌∷◌, ℕ, ◌<◌, ◌≤◌, Bool, true, false, Option, Some, None, refl, sym, ap, subst, ◌∙◌, ◌⊎◌, inl, inr, arith}
use Rattle.std.specs.Prelude.{slice_index}
use Rattle.std.specs.FinMap.{get, insert}
use Rattle.std.proofs.lemmas.Bool.Decides.{nat_tests}
use Rattle.std.proofs.lemmas.Option.{none-some, same_Some}
use Rattle.std.proofs.lemmas.Bool.{cases_lt, cases_eq}
use Rattle.message.specs.declared.message.ToVoter.{ToVoter}
use Rattle.message.specs.declared.message.ClientBody.TheVariants as to_client
use Rattle.message.specs.declared.message.VoterBody.{VoterBody}
use Rattle.message.specs.declared.message.VoterBody.TheVariants as asks
use Rattle.voter.specs.declared.state.Grant.{Grant}
use Rattle.voter.specs.declared.state.VoterState.{VoterState}
use Rattle.voter.specs.Entries.{Finishes, KnowsUpTo, request_of}
use Rattle.message.specs.Requests.{precedes}
use Rattle.voter.specs.Waiting.{Waiting}
use Rattle.voter.specs.VoterContract.{IsEntry}
use Rattle.voter.specs.Steps.{take_release, join_queue, join_queue_by, admit, queue, free_vote, finish, held_stamp, is_up_to, current_stamp, first_some, take_request}
use Rattle.voter.specs.Steps.{see, outcome_of, is_refused, Outcome, step, IsSound, remind}
use Rattle.voter.specs.Steps.{remind_of, reply, inquiry_again, ends_grant}
use Rattle.voter.proofs.AskedBack.{inserted_cases}
use Rattle.voter.specs.VoteMoves.{GrantIsNew, VoteMoves}
use Rattle.voter.proofs.Cases.{by_admit, by_release, by_relinquish, by_request}
use Rattle.voter.proofs.Effects.{IsSound-step, step-Some, step-taken}
use Rattle.voter.proofs.Moves.{VoteMoves-outcome_of}
use Rattle.voter.proofs.Freeing.{HolderFirst-grant_front, own_grant, requeues-relinquish, requeues_by, frees-release}
use Rattle.voter.proofs.Soundness.{GrantsAreOrderly, IsOrderly-see, orderly-take_release}
use Rattle.voter.proofs.NewRequests.{OthersStay, OthersStay-take_release, entry-grant_front, kept_removed, present-admit, present-take_request}

orderly : (v : VoterState) → IsSound v → GrantsAreOrderly v
orderly v ok = record { numbered = ok.numbered; apart = ok.apart; free = ok.free }

-- ---- a RELEASE

up_to_stamp : (o : Option Grant) (h : Grant) (c t : ℕ) → o ≡ Some h → is_up_to (held_stamp o c) t ≡ true → (h.client ≡ c) × (h.stamp ≤ t)
up_to_stamp None h c t is up = absurd (none-some h is)
up_to_stamp (Some k) h c t is up =
    let same = same_Some k h is in
    let client = ap (λ (g : Grant). g.client) same in
    let stamp = ap (λ (g : Grant). g.stamp) same in
    (grind (arith, nat_tests), grind (arith, nat_tests))

waits_up_to : (o : Option ℕ) (s t : ℕ) → o ≡ Some s → is_up_to o t ≡ true → s ≤ t
waits_up_to None s t is up = absurd (none-some s is)
waits_up_to (Some u) s t is up = let same = same_Some u s is in grind (arith, nat_tests)

stay-take_release : (v : VoterState) (c t d s : ℕ) → IsEntry v d s → IsEntry (take_release v c t).state d s ⊎ ((d ≡ c) × (s ≤ t))
stay-take_release v c t d s entry = by_release (λ o. IsEntry o.state d s ⊎ ((d ≡ c) × (s ≤ t))) v c t
    (λ holds. elim entry [
      | inl held ↦ let up = up_to_stamp v.held held.0 c t held.1 holds in inr (sym held.2 ∙ up.0, subst (λ n. n ≤ t) held.3 up.1)
      | inr waits ↦ inl (entry-grant_front (free_vote (finish v c t)) refl d s waits)
    ])
    (λ _ waiting. elim entry [
      | inl held ↦ inl (inl held)
      | inr waits ↦ elim (cases_eq d c) [
        | inl same ↦ inr (same, waits_up_to (get v.waiting c) s t (ap (get v.waiting) (sym same) ∙ waits) waiting)
        | inr other ↦ inl (inr (kept_removed v.waiting c d s other waits))
      ]
    ])
    (λ _ _. inl entry)

-- ---- a REQUEST

others-take_request : (v : VoterState) (c s : ℕ) → GrantsAreOrderly v → OthersStay v c (take_request v c s).state
others-take_request v c s ok = by_request (λ o. OthersStay v c o.state) v c s (record {
  stale = λ _ d u other entry. entry;
  repeated = λ _ d u other entry. entry;
  only = λ _ _. (present-admit v c s ok).1;
  newer = λ _ t _ _ d u other entry.
      (present-admit (take_release v c t).state c s (orderly-take_release v c t ok)).1 d u other (OthersStay-take_release v c t d u other entry);
})

-- a client with a request has one, and it is this one
current_stamp_by : (v : VoterState) (c u : ℕ) (o : Option Grant) → v.held ≡ o → GrantsAreOrderly v → IsEntry v c u → first_some (held_stamp o c) (get v.waiting c) ≡ Some u
current_stamp_by v c u None is ok entry = elim entry [
  | inl held ↦ absurd (none-some held.0 (sym is ∙ held.1))
  | inr waits ↦ waits
]
current_stamp_by v c u (Some g) is ok entry = elim entry [
  | inl held ↦
      let same = same_Some g held.0 (sym is ∙ held.1) in
      let client : g.client ≡ c = ap (λ (k : Grant). k.client) same ∙ held.2 in
      let stamp : g.stamp ≡ u = ap (λ (k : Grant). k.stamp) same ∙ held.3 in
      grind (arith, nat_tests)
  | inr waits ↦ elim (cases_eq g.client c) [
    | inl same ↦ absurd (none-some u (sym (ok.apart g is) ∙ ap (get v.waiting) same ∙ waits))
    | inr other ↦ grind (arith, nat_tests)
  ]
]

pub current_stamp-entry : (v : VoterState) (c u : ℕ) → GrantsAreOrderly v → IsEntry v c u → current_stamp v c ≡ Some u
current_stamp-entry v c u ok entry = current_stamp_by v c u v.held refl ok entry

own-take_request : (v : VoterState) (c s u : ℕ) → GrantsAreOrderly v → s ≤ u → IsEntry v c u → IsEntry (take_request v c s).state c u
own-take_request v c s u ok most entry =
    let now = current_stamp-entry v c u ok entry in
    by_request (λ o. IsEntry o.state c u) v c s (record {
      stale = λ _. entry;
      repeated = λ _. entry;
      only = λ _ none. absurd (none-some u (sym none ∙ now));
      newer = λ _ t present less. absurd (let same = same_Some t u (sym present ∙ now) in omega arith);
    })

stay-take_request : (v : VoterState) (c s d u : ℕ) → GrantsAreOrderly v → IsEntry v d u → IsEntry (take_request v c s).state d u ⊎ ((d ≡ c) × (u < s))
stay-take_request v c s d u ok entry = elim (cases_eq d c) [
  | inl same ↦ elim (cases_lt u s) [
    | inl less ↦ inr (same, less)
    | inr most ↦ inl (subst (λ n. IsEntry (take_request v c s).state n u) (sym same) (own-take_request v c s u ok most (subst (λ n. IsEntry v n u) same entry)))
  ]
  | inr other ↦ inl (others-take_request v c s ok d u other entry)
]

-- ---- any message

stay-outcome_of : (v : VoterState) (c : ℕ) (b : VoterBody) → GrantsAreOrderly v → (d s : ℕ) → IsEntry v d s → IsEntry (outcome_of v c b).state d s ⊎ Finishes c b d s
stay-outcome_of v c (asks.Request t) ok d s entry = stay-take_request (see v t) c t d s (IsOrderly-see v t ok) entry
stay-outcome_of v c (asks.Relinquish n) ok d s entry = inl (by_relinquish (λ o. IsEntry o.state d s) v c n entry (λ g is. (requeues_by (Some g) v g refl is ok).0 d s entry))
stay-outcome_of v c (asks.Release t) ok d s entry = stay-take_release (see v t) c t d s entry

pub requests_stay-step : (v : VoterState) (m : ToVoter) (o : Outcome) (client stamp : ℕ) → IsSound v → step v m ≡ Some o → IsEntry v client stamp → IsEntry o.state client stamp
    ⊎ Finishes m.client m.body client stamp
requests_stay-step v m o client stamp ok e entry =
    subst (λ (p : Outcome). IsEntry p.state client stamp ⊎ Finishes m.client m.body client stamp) (step-Some v m o e).1
    (stay-outcome_of v m.client m.body (orderly v ok) client stamp entry)

-- ---- a new grant goes to the first

-- a grant above this number is of a request that no waiting one precedes
abbrev NewFirst : ℕ → VoterState → Type 0
NewFirst n w = (g : Grant) (d t : ℕ) → w.held ≡ Some g → n < g.grant → get w.waiting d ≡ Some t → precedes (record { stamp = t; client = d }) (request_of g) ≡ false

-- the same of the requests that were there before
abbrev NewFirstOf : VoterState → VoterState → Type 0
NewFirstOf v w = (g : Grant) (d t : ℕ) → w.held ≡ Some g → v.granted < g.grant → IsEntry v d t → get w.waiting d ≡ Some t → precedes (record { stamp = t; client = d }) (request_of g) ≡ false

first-old : (v : VoterState) → GrantsAreOrderly v → NewFirst v.granted v
first-old v ok g d t held new waits = let most = ok.numbered g held in absurd (omega arith)

first-take_release : (v : VoterState) (c t : ℕ) → GrantsAreOrderly v → NewFirst v.granted (take_release v c t).state
first-take_release v c t ok = by_release (λ o. NewFirst v.granted o.state) v c t
    (λ _ g d s held new waiting. HolderFirst-grant_front (free_vote (finish v c t)) refl g d s held waiting)
    (λ _ _ g d s held new waiting. let most = ok.numbered g held in absurd (omega arith))
    (λ _ _ g d s held new waiting. let most = ok.numbered g held in absurd (omega arith))

held-join_queue_by : (waits granted : Bool) (v : VoterState) (g : Grant) (c s : ℕ) → (join_queue_by waits granted v g c s).state.held ≡ v.held
held-join_queue_by false true v g c s = refl
held-join_queue_by waits granted v g c s = refl

waiting-join_queue_by : (waits granted : Bool) (v : VoterState) (g : Grant) (c s : ℕ) → (join_queue_by waits granted v g c s).state.waiting ≡ insert v.waiting c s
waiting-join_queue_by false true v g c s = refl
waiting-join_queue_by waits granted v g c s = refl

-- what waits after a new request waited before, or is that request
first-admit : (v : VoterState) (c s n : ℕ) → NewFirst n v
    → (g : Grant) (d t : ℕ) → (admit v c s).state.held ≡ Some g → n < g.grant → ((d ≡ c) × (t ≡ s) → ⊥) → get (admit v c s).state.waiting d ≡ Some t
    → precedes (record { stamp = t; client = d }) (request_of g) ≡ false
unfolding join_queue
first-admit v c s n first g d t = by_admit (λ o. o.state.held ≡ Some g → n < g.grant → ((d ≡ c) × (t ≡ s) → ⊥) → get o.state.waiting d ≡ Some t
    → precedes (record { stamp = t; client = d }) (request_of g) ≡ false) v c s
    (λ is held new other waits. HolderFirst-grant_front (queue v c s) is g d t held waits)
    (λ h _ held new other waits.
    let same = held-join_queue_by _ _ v h c s in
    let list = waiting-join_queue_by _ _ v h c s in
    elim (inserted_cases v.waiting c s d t (sym (ap (λ (w : Waiting). get w d) list) ∙ waits)) [
      | inl here ↦ absurd (other here)
      | inr before ↦ first g d t (sym same ∙ held) new before
    ])

first-take_request : (v : VoterState) (c s : ℕ) → GrantsAreOrderly v → NewFirstOf v (take_request v c s).state
first-take_request v c s ok = by_request (λ o. NewFirstOf v o.state) v c s (record {
  stale = λ _ g d u held new entry waits. first-old v ok g d u held new waits;
  repeated = λ _ g d u held new entry waits. first-old v ok g d u held new waits;
  only = λ _ none g d u held new entry waits. first-admit v c s v.granted (first-old v ok) g d u held new
      (λ here. none-some u (sym none ∙ current_stamp-entry v c u ok (subst (λ n. IsEntry v n u) here.0 entry))) waits;
  newer = λ _ t present less g d u held new entry waits. first-admit (take_release v c t).state c s v.granted (first-take_release v c t ok) g d u held new
      (λ here.
      let old = same_Some t u (sym present ∙ current_stamp-entry v c u ok (subst (λ n. IsEntry v n u) here.0 entry)) in
      let same = here.1 in
      (let x : ⊥ = omega arith in x))
      waits;
})

first-outcome_of : (v : VoterState) (c : ℕ) (b : VoterBody) → GrantsAreOrderly v → NewFirstOf v (outcome_of v c b).state
first-outcome_of v c (asks.Request s) ok g d t held new entry waits = first-take_request (see v s) c s (IsOrderly-see v s ok) g d t held new entry waits
first-outcome_of v c (asks.Relinquish n) ok g d t held new entry waits = by_relinquish (λ o. NewFirst v.granted o.state) v c n (first-old v ok)
    (λ h is g d t held new waits. (requeues_by (Some h) v h refl is ok).1 g d t held waits) g d t held new waits
first-outcome_of v c (asks.Release s) ok g d t held new entry waits = first-take_release (see v s) c s (IsOrderly-see v s ok) g d t held new waits

pub first-step : (v : VoterState) (m : ToVoter) (o : Outcome) (g : Grant) (client stamp : ℕ) → IsSound v → step v m ≡ Some o → o.state.held ≡ Some g → v.granted < g.grant
    → IsEntry v client stamp → get o.state.waiting client ≡ Some stamp → precedes (record { stamp = stamp; client = client }) (request_of g) ≡ false
first-step v m o g client stamp ok e =
    subst (λ (p : Outcome). p.state.held ≡ Some g → v.granted < g.grant → IsEntry v client stamp → get p.state.waiting client ≡ Some stamp
    → precedes (record { stamp = stamp; client = client }) (request_of g) ≡ false)
    (step-Some v m o e).1 (first-outcome_of v m.client m.body (orderly v ok) g client stamp)

-- ---- what a REQUEST and a RELEASE do, as steps

pub taken_up-step : (v : VoterState) (m : ToVoter) (o : Outcome) (stamp : ℕ) → IsSound v → m.body ≡ asks.Request stamp → slice_index v.finished m.client < stamp → KnowsUpTo v m.client stamp
    → step v m ≡ Some o → IsEntry o.state m.client stamp
taken_up-step v m o stamp ok is new most e =
    subst (λ (p : Outcome). IsEntry p.state m.client stamp) (ap (outcome_of v m.client) (sym is) ∙ (step-Some v m o e).1) (present-take_request v m.client stamp new most (orderly v ok)).0

pub ended-step : (v : VoterState) (m : ToVoter) (o : Outcome) (g : Grant) (stamp : ℕ) → IsSound v → v.held ≡ Some g → m.client ≡ g.client → m.body ≡ asks.Release stamp → g.stamp ≤ stamp
    → step v m ≡ Some o → (s : ℕ) → IsEntry o.state g.client s → ⊥
ended-step v m o g stamp ok held own is most e =
    subst (λ (p : Outcome). (s : ℕ) → IsEntry p.state g.client s → ⊥) (ap (λ n. outcome_of v n (asks.Release stamp)) (sym own) ∙ ap (outcome_of v m.client) (sym is) ∙ (step-Some v m o e).1)
    (frees-release v g stamp held most (orderly v ok)).0

-- a RELINQUISH of the grant: its request waits, so some request has the vote
goes_on_by : (v w : VoterState) (g : Grant) → IsEntry w g.client g.stamp → IsSound w → VoteMoves true v w → GrantIsNew v w
goes_on_by v w g entry sound (inl ends) = elim entry [
  | inl held ↦ absurd (none-some held.0 (sym ends.held ∙ held.1))
  | inr waits ↦ absurd (none-some g.stamp (sym (sound.free ends.held g.client) ∙ waits))
]
goes_on_by v w g entry sound (inr new) = new

relinquishes : (v : VoterState) (g : Grant) → v.held ≡ Some g → VoteMoves true v (outcome_of v g.client (asks.Relinquish g.grant)).state
unfolding ends_grant
relinquishes v g held = subst (λ b. VoteMoves b v (outcome_of v g.client (asks.Relinquish g.grant)).state) (own_grant v.held g held) (VoteMoves-outcome_of v g.client (asks.Relinquish g.grant))

pub goes_on-step : (v : VoterState) (m : ToVoter) (o : Outcome) (g : Grant) → IsSound v → v.held ≡ Some g → m.client ≡ g.client → m.body ≡ asks.Relinquish g.grant
    → step v m ≡ Some o → GrantIsNew v o.state
goes_on-step v m o g ok held own is e =
    let same : outcome_of v g.client (asks.Relinquish g.grant) ≡ o = ap (λ n. outcome_of v n (asks.Relinquish g.grant)) (sym own) ∙ ap (outcome_of v m.client) (sym is) ∙ (step-Some v m o e).1 in
    goes_on_by v o.state g (subst (λ (p : Outcome). IsEntry p.state g.client g.stamp) same ((requeues-relinquish v g held (orderly v ok)).0 g.client g.stamp (inl (g, held, refl, refl))))
    (IsSound-step v m o ok e) (subst (λ (p : Outcome). VoteMoves true v p.state) same (relinquishes v g held))

-- ---- while grants are left

enough : (v : VoterState) (m : ToVoter) → v.granted < v.limit → is_refused v m ≡ false
enough v m left = grind (arith, nat_tests)

pub takes-step : (v : VoterState) (m : ToVoter) → IsSound v → v.granted < v.limit → (o : Outcome) × (step v m ≡ Some o)
takes-step v m ok left = (outcome_of v m.client m.body, step-taken v m ok (enough v m left))

-- ---- reminders

pub reminds : (v : VoterState) (g : Grant) → v.held ≡ Some g → remind v ≡ reply v g.client (to_client.Locked g.stamp g.grant) ∷ inquiry_again v.inquiring v g
unfolding remind
reminds v g is = ap (λ (o : Option Grant). remind_of o v) is
