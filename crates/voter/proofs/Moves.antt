-- what a message does to the vote
use Rattle.std.proofs.Common.{◌≡◌, ℕ, ◌+◌, Bool, true, false, Option, Some, None, refl, sym, ap, ◌∙◌, inl, inr, arith, subst}
use Rattle.std.specs.Prelude.{is_some, ◌&&◌, nat_lt, nat_le, ◌==◌, slice_index}
use Rattle.std.specs.FinMap.{get}
use Rattle.std.proofs.lemmas.Bool.Decides.{nat_tests}
use Rattle.std.proofs.lemmas.Option.{none-some}
use Rattle.message.specs.declared.request.Request.{Request}
use Rattle.message.specs.declared.message.VoterBody.{VoterBody}
use Rattle.message.specs.declared.message.VoterBody.TheVariants as asks
use Rattle.voter.specs.declared.state.Grant.{Grant}
use Rattle.voter.specs.declared.state.VoterState.{VoterState}
use Rattle.voter.specs.Waiting.{front}
use Rattle.voter.specs.VoteMoves.{GrantIsNew, VoteMoves}
use Rattle.voter.specs.Steps.{grant_to, grant_front, take_release, take_release_by, join_queue, join_queue_by, admit, queue, free_vote, finish, held_stamp, is_up_to, is_older}
use Rattle.voter.specs.Steps.{current_stamp, first_some, take_request, take_request_by, take_request_beside, compare_by, take_relinquish, take_relinquish_by, put_back, see, outcome_of, ends_grant}
use Rattle.voter.proofs.Cases.{by_admit}
use Rattle.voter.proofs.Grants.{up_to_own}

VoteMoves-same : (v w : VoterState) → w.granted ≡ v.granted → w.held ≡ v.held → VoteMoves false v w
VoteMoves-same v w n h = inl (record { granted = n; held = h })

-- the vote is free, and goes to the front
moves_to : (v u : VoterState) (o : Option Request) → u.granted ≡ v.granted → u.held ≡ None → VoteMoves true v (grant_to u o).state
moves_to v u None n free = inl (record { granted = n; held = free })
moves_to v u (Some r) n free = inr (record {
  granted = ap (λ (k : ℕ). k + 1) n;
  grant = record { client = r.client; stamp = r.stamp; grant = u.granted + 1 };
  held = refl;
  number = ap (λ (k : ℕ). k + 1) n;
})

moves-grant_front : (v u : VoterState) → u.granted ≡ v.granted → u.held ≡ None → VoteMoves true v (grant_front u).state
unfolding grant_front
moves-grant_front v u n free = moves_to v u (front u.waiting) n free

moves-take_release_by : (holds waits : Bool) (v : VoterState) (c s : ℕ) → VoteMoves holds v (take_release_by holds waits v c s).state
moves-take_release_by true waits v c s = moves-grant_front v (free_vote (finish v c s)) refl refl
moves-take_release_by false true v c s = inl (record { granted = refl; held = refl })
moves-take_release_by false false v c s = inl (record { granted = refl; held = refl })

moves-take_release : (v : VoterState) (c s : ℕ) → VoteMoves (is_up_to (held_stamp v.held c) s) v (take_release v c s).state
unfolding take_release
moves-take_release v c s = moves-take_release_by _ _ v c s

moves-join_queue_by : (waits granted : Bool) (v : VoterState) (g : Grant) (c s : ℕ) → VoteMoves false v (join_queue_by waits granted v g c s).state
moves-join_queue_by false true v g c s = inl (record { granted = refl; held = refl })
moves-join_queue_by waits granted v g c s = inl (record { granted = refl; held = refl })

-- a free vote stays free or is granted
from_free : (v w : VoterState) → v.held ≡ None → VoteMoves true v w → VoteMoves false v w
from_free v w free (inl k) = inl (record { granted = k.granted; held = k.held ∙ sym free })
from_free v w free (inr k) = inr (free, k)

pub VoteMoves-admit : (v : VoterState) (c s : ℕ) → VoteMoves false v (admit v c s).state
unfolding join_queue
VoteMoves-admit v c s = by_admit (λ o. VoteMoves false v o.state) v c s (λ is. from_free v (grant_front (queue v c s)).state is (moves-grant_front v (queue v c s) refl is))
    (λ g _. moves-join_queue_by _ _ v g c s)

-- a new grant, after a step that gave none
new_later : (u v w : VoterState) → v.granted ≡ u.granted → GrantIsNew v w → GrantIsNew u w
new_later u v w same k =
    let number = ap (λ (n : ℕ). n + 1) same in
    record { granted = k.granted ∙ number; grant = k.grant; held = k.held; number = k.number ∙ number }

-- one step, and then one that ends no grant
VoteMoves-then : (e : Bool) (u v w : VoterState) → VoteMoves e u v → VoteMoves false v w → VoteMoves e u w
VoteMoves-then true u v w (inl h) (inl k) = inl (record { granted = k.granted ∙ h.granted; held = k.held ∙ h.held })
VoteMoves-then true u v w (inl h) (inr k) = inr (new_later u v w h.granted k.1)
VoteMoves-then true u v w (inr h) (inl k) = inr (record { granted = k.granted ∙ h.granted; grant = h.grant; held = k.held ∙ h.held; number = h.number })
VoteMoves-then true u v w (inr h) (inr k) = absurd (none-some h.grant (sym k.0 ∙ h.held))
VoteMoves-then false u v w (inl h) (inl k) = inl (record { granted = k.granted ∙ h.granted; held = k.held ∙ h.held })
VoteMoves-then false u v w (inl h) (inr k) = inr (sym h.held ∙ k.0, new_later u v w h.granted k.1)
VoteMoves-then false u v w (inr h) (inl k) = inr (h.0, record { granted = k.granted ∙ h.1.granted; grant = h.1.grant; held = k.held ∙ h.1.held; number = h.1.number })
VoteMoves-then false u v w (inr h) (inr k) = absurd (none-some h.1.grant (sym k.0 ∙ h.1.held))

older_own : (o w : Option ℕ) (s t : ℕ) → first_some o w ≡ Some t → is_older o s ≡ is_some o && nat_lt t s
older_own None w s t e = refl
older_own (Some u) w s t e = grind (arith, nat_tests)

moves-compare_by : (less same : Bool) (v : VoterState) (c s t : ℕ) → nat_lt s t ≡ less → (s == t) ≡ same → current_stamp v c ≡ Some t
    → VoteMoves (is_older (held_stamp v.held c) s) v (compare_by less same v c s t).state
moves-compare_by false false v c s t l e present =
    let own = older_own (held_stamp v.held c) (get v.waiting c) s t present in
    let up = up_to_own (held_stamp v.held c) (get v.waiting c) t present in
    let same_test : is_up_to (held_stamp v.held c) t ≡ is_older (held_stamp v.held c) s = grind (arith, nat_tests) in
    let w = (take_release v c t).state in
    subst (λ b. VoteMoves b v (admit w c s).state) same_test (VoteMoves-then _ v w (admit w c s).state (moves-take_release v c t) (VoteMoves-admit w c s))
moves-compare_by less same v c s t l e present =
    let own = older_own (held_stamp v.held c) (get v.waiting c) s t present in
    let no : is_older (held_stamp v.held c) s ≡ false = grind (arith, nat_tests) in
    subst (λ b. VoteMoves b v v) (sym no) (VoteMoves-same v v refl refl)

none_older : (o w : Option ℕ) (s : ℕ) → first_some o w ≡ None → is_older o s ≡ false
none_older None w s e = refl
none_older (Some u) w s e = grind (arith, nat_tests)

moves-beside : (v : VoterState) (c s : ℕ) (o : Option ℕ) → current_stamp v c ≡ o → VoteMoves (is_older (held_stamp v.held c) s) v (take_request_beside v c s o).state
unfolding take_request_beside
moves-beside v c s None present = subst (λ b. VoteMoves b v (admit v c s).state) (sym (none_older (held_stamp v.held c) (get v.waiting c) s present)) (VoteMoves-admit v c s)
moves-beside v c s (Some t) present = moves-compare_by _ _ v c s t refl refl present

moves-take_request_by : (done : Bool) (v : VoterState) (c s : ℕ) → nat_le s (slice_index v.finished c) ≡ done
    → VoteMoves (nat_lt (slice_index v.finished c) s && is_older (held_stamp v.held c) s) v (take_request_by done v c s).state
moves-take_request_by true v c s e =
    let no : (nat_lt (slice_index v.finished c) s && is_older (held_stamp v.held c) s) ≡ false = grind (arith, nat_tests) in
    subst (λ b. VoteMoves b v v) (sym no) (VoteMoves-same v v refl refl)
moves-take_request_by false v c s e =
    let same : is_older (held_stamp v.held c) s ≡ (nat_lt (slice_index v.finished c) s && is_older (held_stamp v.held c) s) = grind (arith, nat_tests) in
    subst (λ b. VoteMoves b v (take_request_beside v c s (current_stamp v c)).state) same (moves-beside v c s (current_stamp v c) refl)

moves-put_back : (o : Option Grant) (v : VoterState) → v.held ≡ o → VoteMoves true v (put_back o v).state
moves-put_back None v is = inl (record { granted = refl; held = is })
moves-put_back (Some g) v is = moves-grant_front v (queue (free_vote v) g.client g.stamp) refl refl

moves-take_relinquish_by : (b : Bool) (v : VoterState) → VoteMoves b v (take_relinquish_by b v).state
moves-take_relinquish_by true v = moves-put_back v.held v refl
moves-take_relinquish_by false v = inl (record { granted = refl; held = refl })

-- what was seen is no matter
VoteMoves-from_see : (e : Bool) (v : VoterState) (s : ℕ) (w : VoterState) → VoteMoves e (see v s) w → VoteMoves e v w
VoteMoves-from_see true v s w (inl k) = inl (record { granted = k.granted; held = k.held })
VoteMoves-from_see true v s w (inr k) = inr (new_later v (see v s) w refl k)
VoteMoves-from_see false v s w (inl k) = inl (record { granted = k.granted; held = k.held })
VoteMoves-from_see false v s w (inr k) = inr (k.0, new_later v (see v s) w refl k.1)

pub VoteMoves-outcome_of : (v : VoterState) (c : ℕ) (b : VoterBody) → VoteMoves (ends_grant v c b) v (outcome_of v c b).state
unfolding take_relinquish take_request ends_grant
VoteMoves-outcome_of v c (asks.Request s) = VoteMoves-from_see _ v s _ (moves-take_request_by _ (see v s) c s refl)
VoteMoves-outcome_of v c (asks.Relinquish n) = moves-take_relinquish_by _ v
VoteMoves-outcome_of v c (asks.Release s) = VoteMoves-from_see _ v s _ (moves-take_release (see v s) c s)
