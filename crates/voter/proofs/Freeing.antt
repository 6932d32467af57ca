-- a vote that comes back goes to the first that waits
use Rattle.std.proofs.Common.{◌≡◌, ℕ, ◌+◌, ◌≤◌, Bool, true, false, Option, Some, None, refl, sym, ap, subst, ◌∙◌, inl, inr, arith}
use Rattle.std.specs.FinMap.{get, insert}
use Rattle.std.proofs.lemmas.Bool.Decides.{nat_tests}
use Rattle.std.proofs.lemmas.Bool.{false≢true, cases_eq}
use Rattle.std.proofs.lemmas.Option.{none-some, same_Some}
use Rattle.message.specs.declared.request.Request.{Request}
use Rattle.message.specs.declared.message.VoterBody.TheVariants as asks
use Rattle.voter.specs.declared.state.Grant.{Grant}
use Rattle.voter.specs.declared.state.VoterState.{VoterState}
use Rattle.message.specs.Requests.{precedes}
use Rattle.voter.specs.Waiting.{front}
use Rattle.voter.specs.VoterContract.{IsEntry}
use Rattle.voter.specs.Steps.{grant_to, grant_front, take_release, take_release_by, queue, free_vote, finish, held_stamp, is_up_to, is_grant, take_relinquish, take_relinquish_by, put_back, see, outcome_of}
use Rattle.voter.specs.Entries.{request_of}
use Rattle.voter.proofs.Front.{front-found}
use Rattle.voter.proofs.Soundness.{GrantsAreOrderly, IsOrderly-see}
use Rattle.voter.proofs.AskedBack.{front-first, still_removed}
use Rattle.voter.proofs.NewRequests.{entry-grant_front, kept_inserted, here_inserted}

-- no request that waits precedes the one that holds the vote
abbrev pub HolderFirst : VoterState → Type 0
HolderFirst v = (g : Grant) (c t : ℕ) → v.held ≡ Some g → get v.waiting c ≡ Some t → precedes (record { stamp = t; client = c }) (request_of g) ≡ false

first-grant_to : (v : VoterState) (o : Option Request) → front v.waiting ≡ o → v.held ≡ None → HolderFirst (grant_to v o).state
first-grant_to v None is free g d t held waits = absurd (none-some g (sym free ∙ held))
first-grant_to v (Some r) is free g d t held waits =
    let new : Grant = record { client = r.client; stamp = r.stamp; grant = v.granted + 1 } in
    let same : request_of g ≡ r = sym (ap request_of (same_Some new g held)) in
    subst (λ (x : Request). precedes (record { stamp = t; client = d }) x ≡ false) (sym same) (front-first v.waiting r is d t (still_removed v.waiting r.client d t waits))

pub HolderFirst-grant_front : (v : VoterState) → v.held ≡ None → HolderFirst (grant_front v).state
unfolding grant_front
HolderFirst-grant_front v free = first-grant_to v (front v.waiting) refl free

-- granting makes no entry
back-grant_to : (v : VoterState) (o : Option Request) → front v.waiting ≡ o → v.held ≡ None → (d t : ℕ) → IsEntry (grant_to v o).state d t → get v.waiting d ≡ Some t
back-grant_to v None is free d t entry = elim entry [ inl held ↦ absurd (none-some held.0 (sym free ∙ held.1)) | inr waits ↦ waits ]
back-grant_to v (Some r) is free d t entry = elim entry [
  | inl held ↦
      let new : Grant = record { client = r.client; stamp = r.stamp; grant = v.granted + 1 } in
      let same = same_Some new held.0 held.1 in
      let client : r.client ≡ d = ap (λ (k : Grant). k.client) same ∙ held.2 in
      let stamp : r.stamp ≡ t = ap (λ (k : Grant). k.stamp) same ∙ held.3 in
      ap (get v.waiting) (sym client) ∙ front-found v.waiting r is ∙ ap (λ n. Some n) stamp
  | inr waits ↦ still_removed v.waiting r.client d t waits
]

back-grant_front : (v : VoterState) → v.held ≡ None → (d t : ℕ) → IsEntry (grant_front v).state d t → get v.waiting d ≡ Some t
unfolding grant_front
back-grant_front v free d t entry = back-grant_to v (front v.waiting) refl free d t entry

-- RELEASE of the grant: its client has no entry afterwards, and the first that waits has the vote

held_up_to : (o : Option Grant) (g : Grant) (s : ℕ) → o ≡ Some g → g.stamp ≤ s → is_up_to (held_stamp o g.client) s ≡ true
held_up_to None g s is most = absurd (none-some g is)
held_up_to (Some h) g s is most = let same = same_Some h g is in let c = ap (λ (k : Grant). k.client) same in let t = ap (λ (k : Grant). k.stamp) same in grind (arith, nat_tests)

frees-take_release_by : (holds waits : Bool) (v : VoterState) (g : Grant) (s : ℕ) → holds ≡ true → v.held ≡ Some g → GrantsAreOrderly v
    → ((t : ℕ) → IsEntry (take_release_by holds waits v g.client s).state g.client t → ⊥) × HolderFirst (take_release_by holds waits v g.client s).state
frees-take_release_by false waits v g s up is ok = absurd (false≢true up)
frees-take_release_by true waits v g s up is ok =
    let w = free_vote (finish v g.client s) in
    (λ t entry. none-some t (sym (ok.apart g is) ∙ back-grant_front w refl g.client t entry), HolderFirst-grant_front w refl)

pub frees-release : (v : VoterState) (g : Grant) (s : ℕ) → v.held ≡ Some g → g.stamp ≤ s → GrantsAreOrderly v
    → ((t : ℕ) → IsEntry (outcome_of v g.client (asks.Release s)).state g.client t → ⊥) × HolderFirst (outcome_of v g.client (asks.Release s)).state
unfolding take_release
frees-release v g s is most ok = frees-take_release_by _ _ (see v s) g s (held_up_to v.held g s is most) is (IsOrderly-see v s ok)

-- RELINQUISH of the grant: every entry stays, and the first has the vote

entry-put_back : (v : VoterState) (g : Grant) → v.held ≡ Some g → GrantsAreOrderly v → (d t : ℕ) → IsEntry v d t → IsEntry (put_back (Some g) v).state d t
entry-put_back v g is ok d t entry = entry-grant_front (queue (free_vote v) g.client g.stamp) refl d t (elim entry [
  | inl held ↦
      let same = same_Some g held.0 (sym is ∙ held.1) in
      let client : g.client ≡ d = ap (λ (k : Grant). k.client) same ∙ held.2 in
      let stamp : g.stamp ≡ t = ap (λ (k : Grant). k.stamp) same ∙ held.3 in
      ap (get (insert v.waiting g.client g.stamp)) (sym client) ∙ here_inserted v.waiting g.client g.stamp ∙ ap (λ n. Some n) stamp
  | inr waits ↦ elim (cases_eq d g.client) [
    | inl same ↦ absurd (none-some t (sym (ok.apart g is) ∙ ap (get v.waiting) (sym same) ∙ waits))
    | inr other ↦ kept_inserted v.waiting g.client g.stamp d t other waits
  ]
])

pub requeues_by : (o : Option Grant) (v : VoterState) (g : Grant) → o ≡ Some g → v.held ≡ Some g → GrantsAreOrderly v
    → ((d t : ℕ) → IsEntry v d t → IsEntry (put_back o v).state d t) × HolderFirst (put_back o v).state
requeues_by None v g e is ok = absurd (none-some g e)
requeues_by (Some h) v g e is ok =
    let same = same_Some h g e in
    (entry-put_back v h (is ∙ ap (λ (k : Grant). Some k) (sym same)) ok, HolderFirst-grant_front (queue (free_vote v) h.client h.stamp) refl)

relinquishes_by : (b : Bool) (v : VoterState) (g : Grant) → b ≡ true → v.held ≡ Some g → GrantsAreOrderly v
    → ((d t : ℕ) → IsEntry v d t → IsEntry (take_relinquish_by b v).state d t) × HolderFirst (take_relinquish_by b v).state
relinquishes_by false v g e is ok = absurd (false≢true e)
relinquishes_by true v g e is ok = requeues_by v.held v g is is ok

pub own_grant : (o : Option Grant) (g : Grant) → o ≡ Some g → is_grant o g.client g.grant ≡ true
own_grant None g is = absurd (none-some g is)
own_grant (Some h) g is = let same = same_Some h g is in let c = ap (λ (k : Grant). k.client) same in let n = ap (λ (k : Grant). k.grant) same in grind (arith, nat_tests)

pub requeues-relinquish : (v : VoterState) (g : Grant) → v.held ≡ Some g → GrantsAreOrderly v
    → ((d t : ℕ) → IsEntry v d t → IsEntry (outcome_of v g.client (asks.Relinquish g.grant)).state d t) × HolderFirst (outcome_of v g.client (asks.Relinquish g.grant)).state
unfolding take_relinquish
requeues-relinquish v g is ok = relinquishes_by _ v g (own_grant v.held g is) is ok
