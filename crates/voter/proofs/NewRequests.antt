-- a new request holds the vote or waits, and the others stay
use Rattle.std.proofs.Common.{◌≡◌, ◌≢◌, ℕ, ◌+◌, ◌<◌, Bool, true, false, Option, Some, None, refl, sym, ap, ◌∙◌, inl, inr, arith}
use Rattle.std.specs.Prelude.{slice_index}
use Rattle.std.specs.FinMap.{get, insert, remove}
use Rattle.std.proofs.lemmas.Bool.Decides.{nat_tests}
use Rattle.std.proofs.lemmas.Bool.{false≢true, cases_eq}
use Rattle.std.proofs.lemmas.Option.{none-some, same_Some}
use Rattle.message.specs.declared.request.Request.{Request}
use Rattle.message.specs.declared.message.VoterBody.TheVariants as asks
use Rattle.voter.specs.declared.state.Grant.{Grant}
use Rattle.voter.specs.declared.state.VoterState.{VoterState}
use Rattle.voter.specs.Waiting.{Waiting, front}
use Rattle.voter.specs.VoterContract.{IsEntry}
use Rattle.voter.specs.Steps.{grant_to, grant_front, take_release, join_queue, join_queue_by, admit, queue, free_vote, finish, held_stamp, is_up_to}
use Rattle.voter.specs.Steps.{first_some, take_request, see, outcome_of}
use Rattle.voter.specs.Entries.{KnowsUpTo}
use Rattle.voter.proofs.Cases.{by_admit, by_release, by_request}
use Rattle.voter.proofs.Front.{front-found}
use Rattle.voter.proofs.Soundness.{GrantsAreOrderly, IsOrderly-see, get-removed, get-inserted, orderly-take_release}

-- the requests of the other clients still have the vote or wait
abbrev pub OthersStay : VoterState → ℕ → VoterState → Type 0
OthersStay v client w = (c s : ℕ) → c ≢ client → IsEntry v c s → IsEntry w c s

-- ---- the others stay

pub kept_inserted : (w : Waiting) (c s d t : ℕ) → d ≢ c → get w d ≡ Some t → get (insert w c s) d ≡ Some t
kept_inserted w c s d t other is = get-inserted w c s d ∙ grind (arith, nat_tests)

pub kept_removed : (w : Waiting) (c d t : ℕ) → d ≢ c → get w d ≡ Some t → get (remove w c) d ≡ Some t
kept_removed w c d t other is = get-removed w c d ∙ grind (arith, nat_tests)

-- granting keeps every entry, where the vote is free
entry-grant_to : (v : VoterState) (o : Option Request) → front v.waiting ≡ o → v.held ≡ None → (d t : ℕ) → get v.waiting d ≡ Some t → IsEntry (grant_to v o).state d t
entry-grant_to v None is free d t waits = inr waits
entry-grant_to v (Some r) is free d t waits = elim (cases_eq d r.client) [
  | inl same ↦
      let stamp : r.stamp ≡ t = same_Some r.stamp t (sym (front-found v.waiting r is) ∙ ap (get v.waiting) (sym same) ∙ waits) in
      inl (record { client = r.client; stamp = r.stamp; grant = v.granted + 1 }, refl, sym same, stamp)
  | inr other ↦ inr (kept_removed v.waiting r.client d t other waits)
]

pub entry-grant_front : (v : VoterState) → v.held ≡ None → (d t : ℕ) → get v.waiting d ≡ Some t → IsEntry (grant_front v).state d t
unfolding grant_front
entry-grant_front v free d t waits = entry-grant_to v (front v.waiting) refl free d t waits

pub holder_of : (h : Grant) (c t : ℕ) → is_up_to (held_stamp (Some h) c) t ≡ true → h.client ≡ c
holder_of h c t up = grind (arith, nat_tests)

-- while a client holds the vote, the entries of others wait
waits_by : (v : VoterState) (c t : ℕ) (o : Option Grant) → v.held ≡ o → is_up_to (held_stamp o c) t ≡ true → (e s : ℕ) → e ≢ c → IsEntry v e s → get v.waiting e ≡ Some s
waits_by v c t None is up e s other entry = absurd (false≢true up)
waits_by v c t (Some h) is up e s other entry = elim entry [
  | inl held ↦ absurd (other (sym held.2 ∙ ap (λ (k : Grant). k.client) (same_Some held.0 h (sym held.1 ∙ is)) ∙ holder_of h c t up))
  | inr waits ↦ waits
]

pub OthersStay-take_release : (v : VoterState) (c t : ℕ) → OthersStay v c (take_release v c t).state
OthersStay-take_release v c t = by_release (λ o. OthersStay v c o.state) v c t
    (λ up d s other entry. entry-grant_front (free_vote (finish v c t)) refl d s (waits_by v c t v.held refl up d s other entry))
    (λ _ _ d s other entry. elim entry [ inl held ↦ inl held | inr waits ↦ inr (kept_removed v.waiting c d s other waits) ])
    (λ _ _ d s other entry. entry)

queue_entry : (v : VoterState) (c s d t : ℕ) → d ≢ c → IsEntry v d t → IsEntry (queue v c s) d t
queue_entry v c s d t other entry = elim entry [ inl held ↦ inl held | inr waits ↦ inr (kept_inserted v.waiting c s d t other waits) ]

-- ---- the new request holds the vote or waits

pub here_inserted : (w : Waiting) (c s : ℕ) → get (insert w c s) c ≡ Some s
here_inserted w c s = get-inserted w c s c ∙ grind (arith, nat_tests)

present-join_queue_by : (waits granted : Bool) (v : VoterState) (g : Grant) (c s : ℕ) → IsEntry (join_queue_by waits granted v g c s).state c s × OthersStay v c (join_queue_by waits granted v g c s).state
present-join_queue_by false true v g c s = (inr (here_inserted v.waiting c s), λ d t other entry. queue_entry v c s d t other entry)
present-join_queue_by waits granted v g c s = (inr (here_inserted v.waiting c s), λ d t other entry. queue_entry v c s d t other entry)

pub no_entry : (v : VoterState) → v.held ≡ None → GrantsAreOrderly v → (d t : ℕ) → IsEntry v d t → ⊥
no_entry v free ok d t entry = elim entry [
  | inl held ↦ none-some held.0 (sym free ∙ held.1)
  | inr waits ↦ none-some t (sym (ok.free free d) ∙ waits)
]

pub present-admit : (v : VoterState) (c s : ℕ) → GrantsAreOrderly v → IsEntry (admit v c s).state c s × OthersStay v c (admit v c s).state
unfolding join_queue
present-admit v c s ok = by_admit (λ o. IsEntry o.state c s × OthersStay v c o.state) v c s
    (λ is. (entry-grant_front (queue v c s) is c s (here_inserted v.waiting c s), λ d t other entry. absurd (no_entry v is ok d t entry)))
    (λ g _. present-join_queue_by _ _ v g c s)

pub entry_by : (v : VoterState) (c t : ℕ) (o : Option Grant) → v.held ≡ o → first_some (held_stamp o c) (get v.waiting c) ≡ Some t → IsEntry v c t
entry_by v c t None is e = inr e
entry_by v c t (Some g) is e = elim (cases_eq g.client c) [
  | inl same ↦ inl (g, is, same, grind (arith, nat_tests))
  | inr other ↦ inr (grind (arith, nat_tests))
]

present_by : (v : VoterState) (c s : ℕ) → slice_index v.finished c < s → KnowsUpTo v c s → GrantsAreOrderly v → IsEntry (take_request v c s).state c s × OthersStay v c (take_request v c s).state
present_by v c s new most ok = by_request (λ o. IsEntry o.state c s × OthersStay v c o.state) v c s (record {
  stale = λ why. absurd (elim why [
    | inl done ↦ omega arith
    | inr old ↦ let least = most old.0 (entry_by v c old.0 v.held refl old.1) in let less = old.2 in omega arith
  ]);
  repeated = λ present. (entry_by v c s v.held refl present, λ d u other entry. entry);
  only = λ _ _. present-admit v c s ok;
  newer = λ _ t _ _.
      let a = present-admit (take_release v c t).state c s (orderly-take_release v c t ok) in
      (a.0, λ d u other entry. a.1 d u other (OthersStay-take_release v c t d u other entry));
})

-- a REQUEST that is not finished, and no older than what the voter knows of its client, holds the vote or waits; the others stay
pub present-take_request : (v : VoterState) (c s : ℕ) → slice_index v.finished c < s → KnowsUpTo v c s → GrantsAreOrderly v
    → IsEntry (outcome_of v c (asks.Request s)).state c s × OthersStay v c (outcome_of v c (asks.Request s)).state
present-take_request v c s new most ok = present_by (see v s) c s new most (IsOrderly-see v s ok)
