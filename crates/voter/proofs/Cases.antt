-- The cases of a step: a property of its outcome holds if it holds in each of them.
use Rattle.std.proofs.Common.{◌≡◌, ℕ, ◌<◌, ◌≤◌, Bool, true, false, Option, Some, None, refl, ap, ◌∙◌, ◌⊎◌, inl, inr, arith}
use Rattle.std.specs.Prelude.{nat_lt, nat_le, ◌==◌, slice_index}
use Rattle.std.specs.FinMap.{get}
use Rattle.std.proofs.lemmas.Bool.Decides.{nat_tests}
use Rattle.voter.specs.declared.state.Grant.{Grant}
use Rattle.voter.specs.declared.state.VoterState.{VoterState}
use Rattle.voter.specs.Steps.{Outcome, no_reply, and_then, again, grant_front, free_vote, finish, withdraw, queue, held_stamp, is_up_to, current_stamp}
use Rattle.voter.specs.Steps.{take_release, take_release_by, join_queue, admit, admit_by, compare_by, take_request, take_request_by, take_request_beside, put_back, take_relinquish, take_relinquish_by}

-- a RELEASE: one of the client's requests up to the stamp holds the vote, or waits, or neither
release_by : (P : Outcome → Type 0) (holds waits : Bool) (v : VoterState) (c s : ℕ) → is_up_to (held_stamp v.held c) s ≡ holds → is_up_to (get v.waiting c) s ≡ waits
    → (is_up_to (held_stamp v.held c) s ≡ true → P (grant_front (free_vote (finish v c s))))
    → (is_up_to (held_stamp v.held c) s ≡ false → is_up_to (get v.waiting c) s ≡ true → P (no_reply (withdraw (finish v c s) c)))
    → (is_up_to (held_stamp v.held c) s ≡ false → is_up_to (get v.waiting c) s ≡ false → P (no_reply (finish v c s)))
    → P (take_release_by holds waits v c s)
release_by P true waits v c s holds waiting held waited neither = held holds
release_by P false true v c s holds waiting held waited neither = waited holds waiting
release_by P false false v c s holds waiting held waited neither = neither holds waiting

pub by_release : (P : Outcome → Type 0) (v : VoterState) (c s : ℕ)
    → (is_up_to (held_stamp v.held c) s ≡ true → P (grant_front (free_vote (finish v c s))))
    → (is_up_to (held_stamp v.held c) s ≡ false → is_up_to (get v.waiting c) s ≡ true → P (no_reply (withdraw (finish v c s) c)))
    → (is_up_to (held_stamp v.held c) s ≡ false → is_up_to (get v.waiting c) s ≡ false → P (no_reply (finish v c s)))
    → P (take_release v c s)
unfolding take_release
by_release P v c s held waited neither = release_by P _ _ v c s refl refl held waited neither

-- a new request: the vote is free, or held
admit_cases : (P : Outcome → Type 0) (o : Option Grant) (v : VoterState) (c s : ℕ) → v.held ≡ o
    → (v.held ≡ None → P (grant_front (queue v c s))) → ((g : Grant) → v.held ≡ Some g → P (join_queue v g c s)) → P (admit_by o v c s)
admit_cases P None v c s is free held = free is
admit_cases P (Some g) v c s is free held = held g is

pub by_admit : (P : Outcome → Type 0) (v : VoterState) (c s : ℕ)
    → (v.held ≡ None → P (grant_front (queue v c s))) → ((g : Grant) → v.held ≡ Some g → P (join_queue v g c s)) → P (admit v c s)
unfolding admit
by_admit P v c s free held = admit_cases P v.held v c s refl free held

-- A REQUEST: it is finished or older than the client's current one; it is the current one; it is the
-- client's only one; or it is newer than the current one, which it finishes.
pub record RequestCases (P : Outcome → Type 0) (v : VoterState) (c s : ℕ) : Type 0 where
  pub stale : (s ≤ slice_index v.finished c) ⊎ ((t : ℕ) × (current_stamp v c ≡ Some t) × (s < t)) → P (no_reply v)
  pub repeated : current_stamp v c ≡ Some s → P (record { replies = again v v.held c s; state = v })
  pub only : slice_index v.finished c < s → current_stamp v c ≡ None → P (admit v c s)
  pub newer : slice_index v.finished c < s → (t : ℕ) → current_stamp v c ≡ Some t → t < s
      → P (and_then (take_release v c t) (admit (take_release v c t).state c s))

compare_cases : {P : Outcome → Type 0} (less same : Bool) (v : VoterState) (c s t : ℕ) → nat_lt s t ≡ less → (s == t) ≡ same → slice_index v.finished c < s → current_stamp v c ≡ Some t
    → RequestCases P v c s → P (compare_by less same v c s t)
compare_cases true same v c s t l e new is k = k.stale (inr (t, is, grind (arith, nat_tests)))
compare_cases false true v c s t l e new is k = let same : t ≡ s = grind (arith, nat_tests) in k.repeated (is ∙ ap (λ (n : ℕ). Some n) same)
compare_cases false false v c s t l e new is k = k.newer new t is (grind (arith, nat_tests))

current_cases : {P : Outcome → Type 0} (o : Option ℕ) (v : VoterState) (c s : ℕ) → slice_index v.finished c < s → current_stamp v c ≡ o → RequestCases P v c s → P (take_request_beside v c s o)
unfolding take_request_beside
current_cases None v c s new is k = k.only new is
current_cases (Some t) v c s new is k = compare_cases _ _ v c s t refl refl new is k

request_cases : {P : Outcome → Type 0} (done : Bool) (v : VoterState) (c s : ℕ) → nat_le s (slice_index v.finished c) ≡ done → RequestCases P v c s → P (take_request_by done v c s)
request_cases true v c s is k = k.stale (inl (grind (arith, nat_tests)))
request_cases false v c s is k = current_cases (current_stamp v c) v c s (grind (arith, nat_tests)) refl k

pub by_request : (P : Outcome → Type 0) (v : VoterState) (c s : ℕ) → RequestCases P v c s → P (take_request v c s)
unfolding take_request
by_request P v c s k = request_cases _ v c s refl k

-- a RELINQUISH: of the current grant, or of any other
put_back_cases : (P : Outcome → Type 0) (o : Option Grant) (v : VoterState) → v.held ≡ o → P (no_reply v) → ((g : Grant) → v.held ≡ Some g → P (grant_front (queue (free_vote v) g.client g.stamp)))
    → P (put_back o v)
put_back_cases P None v is other current = other
put_back_cases P (Some g) v is other current = current g is

relinquish_cases : (P : Outcome → Type 0) (b : Bool) (v : VoterState) → P (no_reply v) → ((g : Grant) → v.held ≡ Some g → P (grant_front (queue (free_vote v) g.client g.stamp))) → P (take_relinquish_by b v)
relinquish_cases P true v other current = put_back_cases P v.held v refl other current
relinquish_cases P false v other current = other

pub by_relinquish : (P : Outcome → Type 0) (v : VoterState) (c n : ℕ) → P (no_reply v) → ((g : Grant) → v.held ≡ Some g → P (grant_front (queue (free_vote v) g.client g.stamp))) → P (take_relinquish v c n)
unfolding take_relinquish
by_relinquish P v c n other current = relinquish_cases P _ v other current
