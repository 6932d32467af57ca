-- the contract of a voter
use Rattle.std.proofs.Common.{◌≡◌, ℕ, ◌<◌, ◌≤◌, Bool, true, false, cond, Option, Some, None, refl, sym, ap, ◌∙◌, ◌⊎◌, inl, inr, arith, subst, eqb}
use Rattle.std.specs.Prelude.{is_some, ◌&&◌}
use Rattle.std.specs.FinMap.{get, insert, remove}
use Rattle.std.proofs.lemmas.Bool.Decides.{nat_tests}
use Rattle.std.proofs.lemmas.Option.{none-some, same_Some}
use Rattle.message.specs.declared.request.Request.{Request}
use Rattle.message.specs.declared.message.ToVoter.{ToVoter}
use Rattle.message.specs.declared.message.VoterBody.{VoterBody}
use Rattle.message.specs.declared.message.VoterBody.TheVariants as asks
use Rattle.voter.specs.declared.state.Grant.{Grant}
use Rattle.voter.specs.declared.state.VoterState.{VoterState}
use Rattle.voter.specs.Waiting.{Waiting, front}
use Rattle.voter.specs.VoteMoves.{VoteMoves}
use Rattle.voter.specs.VoterContract.{Ends, IsEntry, Brings, MeetsContract}
use Rattle.voter.specs.Steps.{Outcome, grant_to, grant_front, take_release, join_queue, join_queue_by, admit, queue, free_vote, finish}
use Rattle.voter.specs.Steps.{held_stamp, is_up_to, is_older, is_grant, take_request, see, outcome_of, ends_grant, step}
use Rattle.voter.proofs.Cases.{by_admit, by_release, by_relinquish, by_request}
use Rattle.voter.proofs.Front.{front-found}
use Rattle.voter.proofs.Moves.{VoteMoves-outcome_of}
use Rattle.voter.proofs.Soundness.{get-removed, get-inserted}
use Rattle.voter.proofs.Effects.{step-Some}
use Rattle.voter.proofs.ReplyLemmas.{AllReport-outcome_of}

-- A grant stays, or the message ends it.

held_ends : (o : Option Grant) (c : ℕ) (g : Grant) → o ≡ Some g → is_some (held_stamp o c) ≡ true → (g.client ≡ c) × (held_stamp o c ≡ Some g.stamp)
held_ends None c g is e = absurd (none-some g is)
held_ends (Some h) c g is e =
    let client = ap (λ (k : Grant). k.client) (same_Some h g is) in
    let stamp = ap (λ (k : Grant). k.stamp) (same_Some h g is) in
    (grind (arith, nat_tests), grind (arith, nat_tests))

older_some : (o : Option ℕ) (s : ℕ) (b : Bool) → (b && is_older o s) ≡ true → is_some o ≡ true
older_some None s b e = grind (arith, nat_tests)
older_some (Some t) s b e = refl

older_less : (o : Option ℕ) (s t : ℕ) (b : Bool) → o ≡ Some t → (b && is_older o s) ≡ true → t < s
older_less None s t b is e = absurd (none-some t is)
older_less (Some u) s t b is e = let same = same_Some u t is in grind (arith, nat_tests)

up_to_some : (o : Option ℕ) (s : ℕ) → is_up_to o s ≡ true → is_some o ≡ true
up_to_some None s e = e
up_to_some (Some t) s e = refl

up_to_le : (o : Option ℕ) (s t : ℕ) → o ≡ Some t → is_up_to o s ≡ true → t ≤ s
up_to_le None s t is e = absurd (none-some t is)
up_to_le (Some u) s t is e = let same = same_Some u t is in grind (arith, nat_tests)

grant_ends : (o : Option Grant) (c n : ℕ) (g : Grant) → o ≡ Some g → is_grant o c n ≡ true → (g.client ≡ c) × (g.grant ≡ n)
grant_ends None c n g is e = absurd (none-some g is)
grant_ends (Some h) c n g is e =
    let client = ap (λ (k : Grant). k.client) (same_Some h g is) in
    let number = ap (λ (k : Grant). k.grant) (same_Some h g is) in
    (grind (arith, nat_tests), grind (arith, nat_tests))

Ends-from_ends_grant : (v : VoterState) (c : ℕ) (b : VoterBody) (g : Grant) → v.held ≡ Some g → ends_grant v c b ≡ true → Ends c b g
unfolding ends_grant
Ends-from_ends_grant v c (asks.Request s) g is e =
    let own = held_ends v.held c g is (older_some (held_stamp v.held c) s _ e) in
    (own.0, older_less (held_stamp v.held c) s g.stamp _ own.1 e)
Ends-from_ends_grant v c (asks.Relinquish n) g is e = grant_ends v.held c n g is e
Ends-from_ends_grant v c (asks.Release s) g is e =
    let own = held_ends v.held c g is (up_to_some (held_stamp v.held c) s e) in
    (own.0, up_to_le (held_stamp v.held c) s g.stamp own.1 e)

kept_by : (e : Bool) (v w : VoterState) (E : Grant → Type 0) (g : Grant) → v.held ≡ Some g → (e ≡ true → E g) → VoteMoves e v w → (w.held ≡ Some g) ⊎ E g
kept_by true v w E g is ends k = inr (ends refl)
kept_by false v w E g is ends (inl k) = inl (k.held ∙ is)
kept_by false v w E g is ends (inr k) = absurd (none-some g (sym k.0 ∙ is))

pub held-kept : (v : VoterState) (c : ℕ) (b : VoterBody) (g : Grant) → v.held ≡ Some g → ((outcome_of v c b).state.held ≡ Some g) ⊎ Ends c b g
held-kept v c b g is = kept_by (ends_grant v c b) v (outcome_of v c b).state (Ends c b) g is (Ends-from_ends_grant v c b g is) (VoteMoves-outcome_of v c b)

-- Entries: what is so of the stamps that came is so of each that holds the vote or waits.

pub record Stamps (P : ℕ → ℕ → Type 0) (v : VoterState) : Type 0 where
  pub held : (g : Grant) → v.held ≡ Some g → P g.client g.stamp
  pub waiting : (c s : ℕ) → get v.waiting c ≡ Some s → P c s

module _ (P : ℕ → ℕ → Type 0) where
  inserted : (w : Waiting) (c s : ℕ) → ((d t : ℕ) → get w d ≡ Some t → P d t) → P c s → (d t : ℕ) → get (insert w c s) d ≡ Some t → P d t
  inserted w c s h p d t is = elim (eqb d c) as (λ b. eqb d c ≡ b → cond b (Some s) (get w d) ≡ Some t → P d t) [
    | true ↦ λ e here. let same : c ≡ d = grind (arith, nat_tests) in subst (λ n. P d n) (same_Some s t here) (subst (λ n. P n s) same p)
    | false ↦ λ e there. h d t there
  ] refl (sym (get-inserted w c s d) ∙ is)

  removed : (w : Waiting) (c : ℕ) → ((d t : ℕ) → get w d ≡ Some t → P d t) → (d t : ℕ) → get (remove w c) d ≡ Some t → P d t
  removed w c h d t is = elim (eqb d c) as (λ b. cond b None (get w d) ≡ Some t → P d t) [
    | true ↦ λ here. absurd (none-some t here)
    | false ↦ λ there. h d t there
  ] (sym (get-removed w c d) ∙ is)

  stamps-grant_to : (v : VoterState) (o : Option Request) → front v.waiting ≡ o → Stamps P v → Stamps P (grant_to v o).state
  stamps-grant_to v None is h = h
  stamps-grant_to v (Some r) is h =
      let p = h.waiting r.client r.stamp (front-found v.waiting r is) in
      record {
        held = λ g same. subst (λ (k : Grant). P k.client k.stamp) (same_Some _ g same) p;
        waiting = removed v.waiting r.client h.waiting;
      }

  stamps-grant_front : (v : VoterState) → Stamps P v → Stamps P (grant_front v).state
  unfolding grant_front
  stamps-grant_front v h = stamps-grant_to v (front v.waiting) refl h

  stamps-free_vote : (v : VoterState) → Stamps P v → Stamps P (free_vote v)
  stamps-free_vote v h = record { held = λ g is. absurd (none-some g is); waiting = h.waiting }

  stamps-queue : (v : VoterState) (c s : ℕ) → P c s → Stamps P v → Stamps P (queue v c s)
  stamps-queue v c s p h = record { held = h.held; waiting = inserted v.waiting c s h.waiting p }

  stamps-take_release : (v : VoterState) (c s : ℕ) → Stamps P v → Stamps P (take_release v c s).state
  stamps-take_release v c s h = by_release (λ o. Stamps P o.state) v c s
      (λ _. stamps-grant_front (free_vote (finish v c s)) (record { held = λ g is. absurd (none-some g is); waiting = h.waiting }))
      (λ _ _. record { held = h.held; waiting = removed v.waiting c h.waiting }) (λ _ _. record { held = h.held; waiting = h.waiting })

  stamps-join_queue_by : (waits granted : Bool) (v : VoterState) (g : Grant) (c s : ℕ) → P c s → Stamps P v → Stamps P (join_queue_by waits granted v g c s).state
  stamps-join_queue_by false false v g c s p h = let k = stamps-queue v c s p h in record { held = k.held; waiting = k.waiting }
  stamps-join_queue_by waits granted v g c s p h = stamps-queue v c s p h

  stamps-admit : (v : VoterState) (c s : ℕ) → P c s → Stamps P v → Stamps P (admit v c s).state
  unfolding join_queue
  stamps-admit v c s p h = by_admit (λ o. Stamps P o.state) v c s (λ _. stamps-grant_front (queue v c s) (stamps-queue v c s p h))
      (λ g _. stamps-join_queue_by _ _ v g c s p h)

  stamps-take_request : (v : VoterState) (c s : ℕ) → P c s → Stamps P v → Stamps P (take_request v c s).state
  stamps-take_request v c s p h = by_request (λ o. Stamps P o.state) v c s (record {
    stale = λ _. h;
    repeated = λ _. h;
    only = λ _ _. stamps-admit v c s p h;
    newer = λ _ t _ _. stamps-admit (take_release v c t).state c s p (stamps-take_release v c t h);
  })

  -- what a REQUEST says is so
  abbrev pub Says : ℕ → VoterBody → Type 0
  Says c (asks.Request s) = P c s
  Says c (asks.Relinquish g) = Unit {0}
  Says c (asks.Release s) = Unit {0}

  pub Stamps-outcome_of : (v : VoterState) (c : ℕ) (b : VoterBody) → Says c b → Stamps P v → Stamps P (outcome_of v c b).state
  Stamps-outcome_of v c (asks.Request s) p h = stamps-take_request (see v s) c s p (record { held = h.held; waiting = h.waiting })
  Stamps-outcome_of v c (asks.Relinquish n) p h = by_relinquish (λ o. Stamps P o.state) v c n h
      (λ g is. stamps-grant_front (queue (free_vote v) g.client g.stamp) (stamps-queue (free_vote v) g.client g.stamp (h.held g is) (stamps-free_vote v h)))
  Stamps-outcome_of v c (asks.Release s) p h = stamps-take_release (see v s) c s (record { held = h.held; waiting = h.waiting })

abbrev pub CameOrBrought : VoterState → ℕ → VoterBody → ℕ → ℕ → Type 0
CameOrBrought v c b d t = IsEntry v d t ⊎ Brings c b d t

Says-Came : (v : VoterState) (c : ℕ) (b : VoterBody) → Says (CameOrBrought v c b) c b
Says-Came v c (asks.Request s) = inr (refl, refl)
Says-Came v c b = tt

came_before : (v : VoterState) (c : ℕ) (b : VoterBody) → Stamps (CameOrBrought v c b) v
came_before v c b = record { held = λ g is. inl (inl (g, is, refl, refl)); waiting = λ d t is. inl (inr is) }

entry_of : (P : ℕ → ℕ → Type 0) (w : VoterState) → Stamps P w → (d t : ℕ) → IsEntry w d t → P d t
entry_of P w h d t (inl e) = subst (λ n. P d n) e.3 (subst (λ n. P n e.0.stamp) e.2 (h.held e.0 e.1))
entry_of P w h d t (inr e) = h.waiting d t e

pub IsEntry-outcome_of : (v : VoterState) (c : ℕ) (b : VoterBody) (d t : ℕ) → IsEntry (outcome_of v c b).state d t → IsEntry v d t ⊎ Brings c b d t
IsEntry-outcome_of v c b d t e = entry_of (CameOrBrought v c b) (outcome_of v c b).state (Stamps-outcome_of (CameOrBrought v c b) v c b (Says-Came v c b) (came_before v c b)) d t e

-- The step.

pub MeetsContract-step : (v : VoterState) (m : ToVoter) (o : Outcome) → step v m ≡ Some o → MeetsContract v m o
MeetsContract-step v m o e =
    let P : Outcome → Type 0 = λ p. MeetsContract v m p in
    let met : MeetsContract v m (outcome_of v m.client m.body) = record {
      kept = held-kept v m.client m.body;
      entries = IsEntry-outcome_of v m.client m.body;
      heard = AllReport-outcome_of v m.client m.body;
    } in
    subst P (step-Some v m o e).1 met
