-- how many grants a message takes
use Rattle.std.proofs.Common.{◌≡◌, ℕ, ◌+◌, Bool, true, false, cond, Option, Some, None, refl, ap, ◌∙◌, arith}
use Rattle.std.specs.Prelude.{is_some, is_none, not, ◌&&◌, ◌||◌, nat_lt, nat_le, ◌==◌, slice_index}
use Rattle.std.specs.FinMap.{get}
use Rattle.std.proofs.lemmas.Bool.Decides.{nat_tests}
use Rattle.message.specs.declared.request.Request.{Request}
use Rattle.message.specs.declared.message.VoterBody.{VoterBody}
use Rattle.message.specs.declared.message.VoterBody.TheVariants as asks
use Rattle.voter.specs.declared.state.Grant.{Grant}
use Rattle.voter.specs.declared.state.VoterState.{VoterState}
use Rattle.voter.specs.Waiting.{front}
use Rattle.voter.specs.Steps.{grant_to, grant_front, take_release, take_release_by, join_queue, join_queue_by, admit, admit_by, queue, free_vote, finish, held_stamp, is_up_to, current_stamp}
use Rattle.voter.specs.Steps.{first_some, take_request, take_request_by, take_request_beside, compare_by, take_relinquish, take_relinquish_by, put_back, see, outcome_of, needs_grant, is_later}
use Rattle.voter.specs.Steps.{is_grant}
use Rattle.voter.specs.Replies.{seen_after}
use Rattle.voter.proofs.Cases.{by_admit, by_release, by_relinquish, by_request}
use Rattle.voter.proofs.Queues.{front-insert}

-- n, and one more where the test holds
abbrev pub more : Bool → ℕ → ℕ
more b n = cond b (n + 1) n

granted_to : (v : VoterState) (o : Option Request) → (grant_to v o).state.granted ≡ more (is_some o) v.granted
granted_to v None = refl
granted_to v (Some r) = refl

granted-grant_front : (v : VoterState) → (grant_front v).state.granted ≡ more (is_some (front v.waiting)) v.granted
unfolding grant_front
granted-grant_front v = granted_to v (front v.waiting)

granted-take_release_by : (holds waits : Bool) (v : VoterState) (c s : ℕ) → (take_release_by holds waits v c s).state.granted ≡ more (holds && is_some (front v.waiting)) v.granted
granted-take_release_by true waits v c s = granted-grant_front (free_vote (finish v c s))
granted-take_release_by false true v c s = refl
granted-take_release_by false false v c s = refl

granted-take_release : (v : VoterState) (c s : ℕ) → (take_release v c s).state.granted ≡ more (is_up_to (held_stamp v.held c) s && is_some (front v.waiting)) v.granted
unfolding take_release
granted-take_release v c s = granted-take_release_by _ _ v c s

granted-join_queue_by : (waits granted : Bool) (v : VoterState) (g : Grant) (c s : ℕ) → (join_queue_by waits granted v g c s).state.granted ≡ v.granted
granted-join_queue_by false true v g c s = refl
granted-join_queue_by waits granted v g c s = refl

granted-join_queue : (v : VoterState) (g : Grant) (c s : ℕ) → (join_queue v g c s).state.granted ≡ v.granted
unfolding join_queue
granted-join_queue v g c s = granted-join_queue_by _ _ v g c s

granted_by : (o : Option Grant) (v : VoterState) (c s : ℕ) → (admit_by o v c s).state.granted ≡ more (is_none o) v.granted
granted_by None v c s = granted-grant_front (queue v c s) ∙ ap (λ b. more b v.granted) (front-insert v.waiting c s)
granted_by (Some g) v c s = granted-join_queue v g c s

pub granted-admit : (v : VoterState) (c s : ℕ) → (admit v c s).state.granted ≡ more (is_none v.held) v.granted
unfolding admit
granted-admit v c s = granted_by v.held v c s

held_to : (v : VoterState) (o : Option Request) → is_none v.held ≡ true → is_none (grant_to v o).state.held ≡ is_none o
held_to v None h = h
held_to v (Some r) h = refl

held-take_release_by : (holds waits : Bool) (v : VoterState) (c s : ℕ) → is_none (take_release_by holds waits v c s).state.held ≡ cond holds (is_none (front v.waiting)) (is_none v.held)
unfolding grant_front
held-take_release_by true waits v c s = held_to (free_vote (finish v c s)) (front v.waiting) refl
held-take_release_by false true v c s = refl
held-take_release_by false false v c s = refl

held-take_release : (v : VoterState) (c s : ℕ) → is_none (take_release v c s).state.held ≡ cond (is_up_to (held_stamp v.held c) s) (is_none (front v.waiting)) (is_none v.held)
unfolding take_release
held-take_release v c s = held-take_release_by _ _ v c s

-- a client with a current request holds the vote or waits; its release, and then its new request
more-release_and_request : (n a : ℕ) (none some up : Bool) → more (cond up (not some) none) (more (up && some) n) ≡ more (none || up) n
more-release_and_request n a none some up = grind (arith, nat_tests)

pub up_to_own : (o w : Option ℕ) (t : ℕ) → first_some o w ≡ Some t → is_up_to o t ≡ is_some o
up_to_own None w t e = refl
up_to_own (Some u) w t e = grind (arith, nat_tests)

first_none : (o w : Option ℕ) → first_some o w ≡ None → is_some o ≡ false
first_none None w e = refl
first_none (Some u) w e = grind (arith, nat_tests)

pub granted-compare_by : (less same : Bool) (v : VoterState) (c s t : ℕ) → nat_lt s t ≡ less → (s == t) ≡ same → current_stamp v c ≡ Some t
    → (compare_by less same v c s t).state.granted ≡ more (nat_lt t s && (is_none v.held || is_some (held_stamp v.held c))) v.granted
granted-compare_by false false v c s t l e present =
    let w = (take_release v c t).state in
    let up = up_to_own (held_stamp v.held c) (get v.waiting c) t present in
    let all = granted-admit w c s ∙ ap (λ b. more b w.granted) (held-take_release v c t)
    ∙ ap (more (cond (is_up_to (held_stamp v.held c) t) (is_none (front v.waiting)) (is_none v.held))) (granted-take_release v c t)
    ∙ more-release_and_request v.granted 0 (is_none v.held) (is_some (front v.waiting)) (is_up_to (held_stamp v.held c) t) in
    grind (arith, nat_tests)
granted-compare_by less same v c s t l e present = grind (arith, nat_tests)

granted-beside : (v : VoterState) (c s : ℕ) (o : Option ℕ) → current_stamp v c ≡ o
    → (take_request_beside v c s o).state.granted ≡ more (is_later o s && (is_none v.held || is_some (held_stamp v.held c))) v.granted
unfolding take_request_beside
granted-beside v c s None e =
    let n = first_none (held_stamp v.held c) (get v.waiting c) e in
    let a = granted-admit v c s in
    grind (arith, nat_tests)
granted-beside v c s (Some t) e = granted-compare_by _ _ v c s t refl refl e

granted-take_request_by : (done : Bool) (v : VoterState) (c s : ℕ) → nat_le s (slice_index v.finished c) ≡ done
    → (take_request_by done v c s).state.granted ≡ more (nat_lt (slice_index v.finished c) s && is_later (current_stamp v c) s && (is_none v.held || is_some (held_stamp v.held c))) v.granted
granted-take_request_by true v c s e = grind (arith, nat_tests)
granted-take_request_by false v c s e = let b = granted-beside v c s (current_stamp v c) refl in grind (arith, nat_tests)

granted-take_request : (v : VoterState) (c s : ℕ) → (take_request v c s).state.granted ≡ more
    (nat_lt (slice_index v.finished c) s && is_later (current_stamp v c) s && (is_none v.held || is_some (held_stamp v.held c))) v.granted
unfolding take_request
granted-take_request v c s = granted-take_request_by _ v c s refl

granted-put_back : (o : Option Grant) (v : VoterState) → (put_back o v).state.granted ≡ more (is_some o) v.granted
granted-put_back None v = refl
granted-put_back (Some g) v = granted-grant_front (queue (free_vote v) g.client g.stamp) ∙ ap (λ b. more b v.granted) (front-insert v.waiting g.client g.stamp)

pub some_grant : (o : Option Grant) (c n : ℕ) → is_grant o c n ≡ true → is_some o ≡ true
some_grant None c n e = e
some_grant (Some g) c n e = refl

granted-take_relinquish_by : (b : Bool) (v : VoterState) (c n : ℕ) → is_grant v.held c n ≡ b → (take_relinquish_by b v).state.granted ≡ more b v.granted
granted-take_relinquish_by true v c n e = granted-put_back v.held v ∙ ap (λ b. more b v.granted) (some_grant v.held c n e)
granted-take_relinquish_by false v c n e = refl

pub granted-outcome_of : (v : VoterState) (c : ℕ) (b : VoterBody) → (outcome_of v c b).state.granted ≡ more (needs_grant v c b) v.granted
unfolding needs_grant take_relinquish
granted-outcome_of v c (asks.Request s) = granted-take_request (see v s) c s
granted-outcome_of v c (asks.Relinquish n) = granted-take_relinquish_by _ v c n refl
granted-outcome_of v c (asks.Release s) = granted-take_release (see v s) c s

-- The number of the voter, the limit and what was seen stay.

pub record KeepsRest (v w : VoterState) : Type 0 where
  pub id : w.id ≡ v.id
  pub limit : w.limit ≡ v.limit
  pub seen : w.seen ≡ v.seen

kept : (v : VoterState) → KeepsRest v v
kept v = record { id = refl; limit = refl; seen = refl }

kept_to : (v : VoterState) (o : Option Request) → KeepsRest v (grant_to v o).state
kept_to v None = kept v
kept_to v (Some r) = record { id = refl; limit = refl; seen = refl }

kept-grant_front : (v : VoterState) → KeepsRest v (grant_front v).state
unfolding grant_front
kept-grant_front v = kept_to v (front v.waiting)

pub Keeps-take_release : (v : VoterState) (c s : ℕ) → KeepsRest v (take_release v c s).state
Keeps-take_release v c s = by_release (λ o. KeepsRest v o.state) v c s (λ _. let k = kept-grant_front (free_vote (finish v c s)) in record { id = k.id; limit = k.limit; seen = k.seen })
    (λ _ _. record { id = refl; limit = refl; seen = refl }) (λ _ _. record { id = refl; limit = refl; seen = refl })

kept-join_queue_by : (waits granted : Bool) (v : VoterState) (g : Grant) (c s : ℕ) → KeepsRest v (join_queue_by waits granted v g c s).state
kept-join_queue_by false true v g c s = record { id = refl; limit = refl; seen = refl }
kept-join_queue_by waits granted v g c s = record { id = refl; limit = refl; seen = refl }

pub Keeps-admit : (v : VoterState) (c s : ℕ) → KeepsRest v (admit v c s).state
unfolding join_queue
Keeps-admit v c s = by_admit (λ o. KeepsRest v o.state) v c s (λ _. let k = kept-grant_front (queue v c s) in record { id = k.id; limit = k.limit; seen = k.seen })
    (λ g _. kept-join_queue_by _ _ v g c s)

kept-take_request : (v : VoterState) (c s : ℕ) → KeepsRest v (take_request v c s).state
kept-take_request v c s = by_request (λ o. KeepsRest v o.state) v c s (record {
  stale = λ _. kept v;
  repeated = λ _. kept v;
  only = λ _ _. Keeps-admit v c s;
  newer = λ _ t _ _.
      let r = Keeps-take_release v c t in
      let a = Keeps-admit (take_release v c t).state c s in
      record { id = a.id ∙ r.id; limit = a.limit ∙ r.limit; seen = a.seen ∙ r.seen };
})

kept-take_relinquish : (v : VoterState) (c n : ℕ) → KeepsRest v (take_relinquish v c n).state
kept-take_relinquish v c n = by_relinquish (λ o. KeepsRest v o.state) v c n (kept v)
    (λ g _. let k = kept-grant_front (queue (free_vote v) g.client g.stamp) in record { id = k.id; limit = k.limit; seen = k.seen })

-- and of what was seen only a stamp is new
pub record KeepsBut (v : VoterState) (b : VoterBody) (w : VoterState) : Type 0 where
  pub id : w.id ≡ v.id
  pub limit : w.limit ≡ v.limit
  pub seen : w.seen ≡ seen_after v.seen b

pub KeepsBut-outcome_of : (v : VoterState) (c : ℕ) (b : VoterBody) → KeepsBut v b (outcome_of v c b).state
KeepsBut-outcome_of v c (asks.Request s) = let k = kept-take_request (see v s) c s in record { id = k.id; limit = k.limit; seen = k.seen }
KeepsBut-outcome_of v c (asks.Relinquish n) = let k = kept-take_relinquish v c n in record { id = k.id; limit = k.limit; seen = k.seen }
KeepsBut-outcome_of v c (asks.Release s) = let k = Keeps-take_release (see v s) c s in record { id = k.id; limit = k.limit; seen = k.seen }
