-- what is so of every voter stays so
use Rattle.std.proofs.Common.{◌≡◌, ◌≢◌, ℕ, ◌+◌, ◌≤◌, ◌^◌, Bool, true, false, cond, Option, Some, None, refl, sym, ap, ◌∙◌, arith, eqb}
use Rattle.std.specs.Prelude.{is_some}
use Rattle.std.specs.Ordering.{nat_cmp}
use Rattle.std.specs.Cmp.{nat_cmp_total}
use Rattle.std.specs.FinMap.{get, insert, remove, get-insert, get-remove, get-empty}
use Rattle.std.proofs.lemmas.Bool.Decides.{nat_tests}
use Rattle.std.proofs.lemmas.Bool.{false≢true}
use Rattle.std.proofs.lemmas.Option.{none-some, same_Some}
use Rattle.message.specs.declared.request.Request.{Request}
use Rattle.message.specs.declared.message.ToVoter.{ToVoter}
use Rattle.message.specs.declared.message.VoterBody.{VoterBody}
use Rattle.message.specs.declared.message.VoterBody.TheVariants as asks
use Rattle.voter.specs.declared.state.Grant.{Grant}
use Rattle.voter.specs.declared.state.VoterState.{VoterState}
use Rattle.voter.specs.Waiting.{Waiting, front}
use Rattle.voter.specs.Steps.{grant_to, grant_front, take_release, join_queue, join_queue_by, admit, queue, free_vote, finish, held_stamp, current_stamp}
use Rattle.voter.specs.Steps.{first_some, take_request, see, outcome_of, is_refused, IsSound}
use Rattle.voter.specs.Steps.{start}
use Rattle.voter.proofs.Cases.{by_admit, by_release, by_relinquish, by_request}
use Rattle.voter.proofs.Front.{front-found, get-no_front, eq_by_cmp-nat}
use Rattle.voter.proofs.Grants.{granted-outcome_of, KeepsBut-outcome_of, up_to_own}

-- The map.

pub get-removed : (w : Waiting) (c d : ℕ) → get (remove w c) d ≡ cond (eqb d c) None (get w d)
get-removed w c d = get-remove nat_cmp_total w c d ∙ ap (λ b. cond b None (get w d)) (eq_by_cmp-nat d c)

pub get-inserted : (w : Waiting) (c s d : ℕ) → get (insert w c s) d ≡ cond (eqb d c) (Some s) (get w d)
get-inserted w c s d = get-insert nat_cmp_total w c s d ∙ ap (λ b. cond b (Some s) (get w d)) (eq_by_cmp-nat d c)

pub get-removed_self : (w : Waiting) (c : ℕ) → get (remove w c) c ≡ None
get-removed_self w c = get-removed w c c ∙ grind (arith, nat_tests)

pub get-removed_none : (w : Waiting) (c d : ℕ) → get w d ≡ None → get (remove w c) d ≡ None
get-removed_none w c d e = get-removed w c d ∙ grind (arith, nat_tests)

other_inserted : (w : Waiting) (c s d : ℕ) → d ≢ c → get w d ≡ None → get (insert w c s) d ≡ None
other_inserted w c s d ne e = get-inserted w c s d ∙ grind (arith, nat_tests)

-- The vote and the queue.

pub record GrantsAreOrderly (v : VoterState) : Type 0 where
  pub numbered : (g : Grant) → v.held ≡ Some g → g.grant ≤ v.granted
  pub apart : (g : Grant) → v.held ≡ Some g → get v.waiting g.client ≡ None
  pub free : v.held ≡ None → (client : ℕ) → get v.waiting client ≡ None

orderly-grant_to : (v : VoterState) (o : Option Request) → front v.waiting ≡ o → v.held ≡ None → GrantsAreOrderly (grant_to v o).state
orderly-grant_to v None is free = record {
  numbered = λ g held. absurd (none-some g (sym free ∙ held));
  apart = λ g held. absurd (none-some g (sym free ∙ held));
  free = λ _ c. get-no_front v.waiting is c;
}
orderly-grant_to v (Some r) is free =
    let new : Grant = record { client = r.client; stamp = r.stamp; grant = v.granted + 1 } in
    record {
      numbered = λ g held. let same = ap (λ (k : Grant). k.grant) (same_Some new g held) in omega arith;
      apart = λ g held. ap (get (remove v.waiting r.client)) (sym (ap (λ (k : Grant). k.client) (same_Some new g held))) ∙ get-removed_self v.waiting r.client;
      free = λ none. absurd (none-some new (sym none));
    }

orderly-grant_front : (v : VoterState) → v.held ≡ None → GrantsAreOrderly (grant_front v).state
unfolding grant_front
orderly-grant_front v free = orderly-grant_to v (front v.waiting) refl free

pub orderly-take_release : (v : VoterState) (c s : ℕ) → GrantsAreOrderly v → GrantsAreOrderly (take_release v c s).state
orderly-take_release v c s h = by_release (λ o. GrantsAreOrderly o.state) v c s (λ _. orderly-grant_front (free_vote (finish v c s)) refl)
    (λ _ _. record {
      numbered = h.numbered;
      apart = λ g held. get-removed_none v.waiting c g.client (h.apart g held);
      free = λ none d. get-removed_none v.waiting c d (h.free none d);
    })
    (λ _ _. record { numbered = h.numbered; apart = h.apart; free = h.free })

not_holder : (o : Option Grant) (c : ℕ) (g : Grant) → held_stamp o c ≡ None → o ≡ Some g → g.client ≢ c
not_holder None c g none is = absurd (none-some g is)
not_holder (Some h) c g none is = λ e. let same = ap (λ (k : Grant). k.client) (same_Some h g is) in absurd (none-some h.stamp (sym none ∙ grind (arith, nat_tests)))

orderly_queue : (v : VoterState) (g : Grant) (c s : ℕ) → v.held ≡ Some g → held_stamp v.held c ≡ None → GrantsAreOrderly v → GrantsAreOrderly (queue v c s)
orderly_queue v g c s is away h = record {
  numbered = h.numbered;
  apart = λ k held. other_inserted v.waiting c s k.client (not_holder v.held c k away held) (h.apart k held);
  free = λ none. absurd (none-some g (sym none ∙ is));
}

orderly-join_queue_by : (waits granted : Bool) (v : VoterState) (g : Grant) (c s : ℕ) → v.held ≡ Some g → held_stamp v.held c ≡ None → GrantsAreOrderly v → GrantsAreOrderly (join_queue_by waits granted v g c s).state
orderly-join_queue_by false false v g c s is away h = let k = orderly_queue v g c s is away h in record { numbered = k.numbered; apart = k.apart; free = k.free }
orderly-join_queue_by waits granted v g c s is away h = orderly_queue v g c s is away h

orderly-admit : (v : VoterState) (c s : ℕ) → held_stamp v.held c ≡ None → GrantsAreOrderly v → GrantsAreOrderly (admit v c s).state
unfolding join_queue
orderly-admit v c s away h = by_admit (λ o. GrantsAreOrderly o.state) v c s (orderly-grant_front (queue v c s)) (λ g is. orderly-join_queue_by _ _ v g c s is away h)

-- After its release a client does not hold the vote.

away-grant_to : (v : VoterState) (o : Option Request) (c : ℕ) → front v.waiting ≡ o → v.held ≡ None → get v.waiting c ≡ None → held_stamp (grant_to v o).state.held c ≡ None
away-grant_to v None c is free none = ap (λ (h : Option Grant). held_stamp h c) free
away-grant_to v (Some r) c is free none =
    elim (eqb r.client c) as (λ b. eqb r.client c ≡ b → cond b (Some r.stamp) None ≡ None) [
      | true ↦ λ e. let same : r.client ≡ c = grind (arith, nat_tests) in absurd (none-some r.stamp (sym (ap (get v.waiting) same ∙ none) ∙ front-found v.waiting r is))
      | false ↦ λ e. refl
    ] refl

away-grant_front : (v : VoterState) (c : ℕ) → v.held ≡ None → get v.waiting c ≡ None → held_stamp (grant_front v).state.held c ≡ None
unfolding grant_front
away-grant_front v c free none = away-grant_to v (front v.waiting) c refl free none

none_of : (o : Option ℕ) → is_some o ≡ false → o ≡ None
none_of None e = refl
none_of (Some s) e = absurd (false≢true (sym e))

pub held_stamp-holder : (o : Option Grant) (c : ℕ) → is_some (held_stamp o c) ≡ true → (g : Grant) × (o ≡ Some g) × (g.client ≡ c)
held_stamp-holder None c e = absurd (false≢true e)
held_stamp-holder (Some g) c e = (g, refl, grind (arith, nat_tests))

pub held_stamp-take_release : (v : VoterState) (c t : ℕ) → current_stamp v c ≡ Some t → GrantsAreOrderly v → held_stamp (take_release v c t).state.held c ≡ None
held_stamp-take_release v c t present h =
    let up = up_to_own (held_stamp v.held c) (get v.waiting c) t present in
    by_release (λ o. held_stamp o.state.held c ≡ None) v c t
    (λ e. let own = held_stamp-holder v.held c (sym up ∙ e) in away-grant_front (free_vote (finish v c t)) c refl (ap (get v.waiting) (sym own.2) ∙ h.apart own.0 own.1))
    (λ e _. none_of (held_stamp v.held c) (sym up ∙ e)) (λ e _. none_of (held_stamp v.held c) (sym up ∙ e))

away_none : (o w : Option ℕ) → first_some o w ≡ None → o ≡ None
away_none None w e = refl
away_none (Some s) w e = absurd (none-some s (sym e))

orderly-take_request : (v : VoterState) (c s : ℕ) → GrantsAreOrderly v → GrantsAreOrderly (take_request v c s).state
orderly-take_request v c s h = by_request (λ o. GrantsAreOrderly o.state) v c s (record {
  stale = λ _. h;
  repeated = λ _. h;
  only = λ _ present. orderly-admit v c s (away_none (held_stamp v.held c) (get v.waiting c) present) h;
  newer = λ _ t present _. orderly-admit (take_release v c t).state c s (held_stamp-take_release v c t present h) (orderly-take_release v c t h);
})

pub IsOrderly-see : (v : VoterState) (s : ℕ) → GrantsAreOrderly v → GrantsAreOrderly (see v s)
IsOrderly-see v s h = record { numbered = h.numbered; apart = h.apart; free = h.free }

pub IsOrderly-outcome_of : (v : VoterState) (c : ℕ) (b : VoterBody) → GrantsAreOrderly v → GrantsAreOrderly (outcome_of v c b).state
IsOrderly-outcome_of v c (asks.Request s) h = orderly-take_request (see v s) c s (IsOrderly-see v s h)
IsOrderly-outcome_of v c (asks.Relinquish n) h = by_relinquish (λ o. GrantsAreOrderly o.state) v c n h (λ g _. orderly-grant_front (queue (free_vote v) g.client g.stamp) refl)
IsOrderly-outcome_of v c (asks.Release s) h = orderly-take_release (see v s) c s (IsOrderly-see v s h)

-- With the limit.

pub IsSound-outcome_of : (v : VoterState) (m : ToVoter) → IsSound v → is_refused v m ≡ false → IsSound (outcome_of v m.client m.body).state
IsSound-outcome_of v m sound enough =
    let g = granted-outcome_of v m.client m.body in
    let k = KeepsBut-outcome_of v m.client m.body in
    let s = sound.granted in
    let l = sound.limit in
    let o = IsOrderly-outcome_of v m.client m.body (record { numbered = sound.numbered; apart = sound.apart; free = sound.free }) in
    record { limit = rw k.limit l; granted = (let same = k.limit in grind (arith, nat_tests)); numbered = o.numbered; apart = o.apart; free = o.free }

pub IsSound-start : (id limit : ℕ) → limit ≤ 2 ^ 62 → IsSound (start id limit)
IsSound-start id limit most = record {
  limit = most;
  granted = omega arith;
  numbered = λ g held. absurd (none-some g held);
  apart = λ g held. absurd (none-some g held);
  free = λ _ c. get-empty nat_cmp c;
}

-- a voter that skips numbers, and has another limit
pub IsSound-counted : (v : VoterState) (granted limit : ℕ) → IsSound v → v.granted ≤ granted → granted ≤ limit → limit ≤ 2 ^ 62
    → IsSound (record v { granted = granted; limit = limit })
IsSound-counted v granted limit sound more within most = record {
  limit = most;
  granted = within;
  numbered = λ g held. (let below = sound.numbered g held in omega arith);
  apart = sound.apart;
  free = sound.free;
}
