-- what the replies of a step say
use Rattle.std.proofs.Common.{◌≡◌, ℕ, ◌+◌, ◌≤◌, Bool, true, false, cond, List, [], ◌∷◌, ◌++◌, length, Option, Some, None, refl, sym, ap, ◌∙◌, inl, inr, arith, subst, eqb, zero-add}
use Rattle.std.specs.Prelude.{◌==◌}
use Rattle.std.specs.FinMap.{get, insert}
use Rattle.std.proofs.lemmas.Bool.Decides.{nat_tests}
use Rattle.std.proofs.lemmas.Bool.{false≢true}
use Rattle.std.proofs.lemmas.List.{length-append}
use Rattle.std.proofs.lemmas.Option.{none-some, same_Some}
use Rattle.std.specs.List.{AllByRecursion}
use Rattle.numbers.proofs.Lists.{AllByRecursion-append, AllByRecursion-weaker}
use Rattle.message.specs.declared.request.Request.{Request}
use Rattle.message.specs.declared.message.ToVoter.{ToVoter}
use Rattle.message.specs.declared.message.ToClient.{ToClient}
use Rattle.message.specs.declared.message.VoterBody.{VoterBody}
use Rattle.message.specs.declared.message.VoterBody.TheVariants as asks
use Rattle.message.specs.declared.message.ClientBody.{ClientBody}
use Rattle.message.specs.declared.message.ClientBody.TheVariants as to_client
use Rattle.voter.specs.declared.state.Grant.{Grant}
use Rattle.voter.specs.declared.state.VoterState.{VoterState}
use Rattle.voter.specs.Waiting.{Waiting, front}
use Rattle.voter.specs.VoteMoves.{VoteMoves}
use Rattle.voter.specs.VoterContract.{ReportsVote, AllReport}
use Rattle.voter.specs.Replies.{ReportsPlace, AllReportPlace, locked_in, locked_count, AllCarry, seen_after, AreAnswers, CarrySeen}
use Rattle.voter.specs.Steps.{Outcome, grant_to, grant_front, take_release, join_queue, join_queue_by, inquiry, fail_former, admit, queue, free_vote, finish}
use Rattle.voter.specs.Steps.{held_stamp, is_up_to, current_stamp, first_some, take_request, again, again_by}
use Rattle.voter.specs.Steps.{see, outcome_of, step, remind, remind_of, inquiry_again, IsSound}
use Rattle.voter.proofs.Cases.{by_admit, by_release, by_relinquish, by_request}
use Rattle.voter.proofs.Front.{front-found}
use Rattle.voter.proofs.Grants.{granted-compare_by, granted-admit, Keeps-admit, KeepsBut-outcome_of, up_to_own, more}
use Rattle.voter.proofs.Moves.{VoteMoves-admit}
use Rattle.voter.proofs.Soundness.{GrantsAreOrderly, get-inserted, get-removed_none, get-removed_self, held_stamp-holder, IsOrderly-see}
use Rattle.voter.proofs.Effects.{step-Some}
use Rattle.voter.proofs.NewRequests.{here_inserted}

-- Each reply says what is so.

-- what a reply says of the voter w: its number, what it saw, its vote and, if S, who waits
record IsTrue (S : Type 0) (w : VoterState) (r : ToClient) : Type 0 where
  voter : r.voter ≡ w.id
  seen : r.seen ≡ w.seen
  vote : ReportsVote w.held r.client r.body
  place : S → ReportsPlace w r.client r.body

-- after v, the voter w has seen no more, and keeps the grant
record SeenNoMore (v w : VoterState) : Type 0 where
  id : w.id ≡ v.id
  seen : w.seen ≡ v.seen
  held : (g : Grant) → v.held ≡ Some g → w.held ≡ Some g

goes_on : (v : VoterState) → SeenNoMore v v
goes_on v = record { id = refl; seen = refl; held = λ g is. is }

held_on : (v w : VoterState) → VoteMoves false v w → (g : Grant) → v.held ≡ Some g → w.held ≡ Some g
held_on v w (inl k) g is = k.held ∙ is
held_on v w (inr k) g is = absurd (none-some g (sym k.0 ∙ is))

GoesOn-admit : (v : VoterState) (c s : ℕ) → SeenNoMore v (admit v c s).state
GoesOn-admit v c s = let k = Keeps-admit v c s in record { id = k.id; seen = k.seen; held = held_on v (admit v c s).state (VoteMoves-admit v c s) }

-- who waited still does, when another comes
still_waits : (w : Waiting) (c s d t : ℕ) → get w c ≡ None → get w d ≡ Some t → get (insert w c s) d ≡ Some t
still_waits w c s d t none is = get-inserted w c s d ∙ elim (eqb d c) as (λ b. eqb d c ≡ b → cond b (Some s) (get w d) ≡ Some t) [
  | true ↦ λ e. let same : d ≡ c = grind (arith, nat_tests) in absurd (none-some t (sym none ∙ ap (get w) (sym same) ∙ is))
  | false ↦ λ e. is
] refl

front_waits : (v : VoterState) (c s : ℕ) → get v.waiting c ≡ None → (q : Request) → front v.waiting ≡ Some q → get (insert v.waiting c s) q.client ≡ Some q.stamp
front_waits v c s none q is = still_waits v.waiting c s q.client q.stamp none (front-found v.waiting q is)

waits_free : (o : Option Grant) (w : Option ℕ) (c s : ℕ) → o ≡ None → first_some (held_stamp o c) w ≡ Some s → w ≡ Some s
waits_free None w c s free present = present
waits_free (Some g) w c s free present = absurd (none-some g (sym free))

waits_beside : (o : Option Grant) (w : Option ℕ) (c : ℕ) (g : Grant) (s : ℕ) → o ≡ Some g → (g.client == c) ≡ false → first_some (held_stamp o c) w ≡ Some s → w ≡ Some s
waits_beside None w c g s is other present = absurd (none-some g is)
waits_beside (Some h) w c g s is other present = let client = ap (λ (k : Grant). k.client) (same_Some h g is) in grind (arith, nat_tests)

same_stamp : (o : Option Grant) (w : Option ℕ) (c : ℕ) (g : Grant) (s : ℕ) → o ≡ Some g → g.client ≡ c → first_some (held_stamp o c) w ≡ Some s → g.stamp ≡ s
same_stamp None w c g s is own present = absurd (none-some g is)
same_stamp (Some h) w c g s is own present =
    let client = ap (λ (k : Grant). k.client) (same_Some h g is) in
    let stamp = ap (λ (k : Grant). k.stamp) (same_Some h g is) in
    grind (arith, nat_tests)

-- after its release a client does not wait

gone-grant_to : (v : VoterState) (o : Option Request) (c : ℕ) → get v.waiting c ≡ None → get (grant_to v o).state.waiting c ≡ None
gone-grant_to v None c none = none
gone-grant_to v (Some r) c none = get-removed_none v.waiting r.client c none

gone-grant_front : (v : VoterState) (c : ℕ) → get v.waiting c ≡ None → get (grant_front v).state.waiting c ≡ None
unfolding grant_front
gone-grant_front v c none = gone-grant_to v (front v.waiting) c none

gone_by : (o w : Option ℕ) (t : ℕ) → first_some o w ≡ Some t → is_up_to o t ≡ false → is_up_to w t ≡ false → w ≡ None
gone_by None w t present held waits = absurd (false≢true (sym waits ∙ ap (λ x. is_up_to x t) present ∙ grind (arith, nat_tests)))
gone_by (Some u) w t present held waits = let same = same_Some u t present in absurd (false≢true (sym held ∙ grind (arith, nat_tests)))

gone-take_release : (v : VoterState) (c t : ℕ) → current_stamp v c ≡ Some t → GrantsAreOrderly v → get (take_release v c t).state.waiting c ≡ None
gone-take_release v c t present h = by_release (λ o. get o.state.waiting c ≡ None) v c t
    (λ e.
    let own = held_stamp-holder v.held c (sym (up_to_own (held_stamp v.held c) (get v.waiting c) t present) ∙ e) in
    gone-grant_front (free_vote (finish v c t)) c (ap (get v.waiting) (sym own.2) ∙ h.apart own.0 own.1))
    (λ _ _. get-removed_self v.waiting c) (gone_by (held_stamp v.held c) (get v.waiting c) t present)

none_waits : (o w : Option ℕ) → first_some o w ≡ None → w ≡ None
none_waits None w e = e
none_waits (Some s) w e = absurd (none-some s (sym e))

module _ (S : Type 0) where
  abbrev AreTrue : VoterState → List ToClient → Type 0
  AreTrue w replies = AllByRecursion (IsTrue S w) replies

  true-grant_to : (v w : VoterState) (o : Option Request) → SeenNoMore (grant_to v o).state w → AreTrue w (grant_to v o).replies
  true-grant_to v w None k = tt
  true-grant_to v w (Some r) k = (record { voter = sym k.id; seen = sym k.seen; vote = k.held _ refl; place = λ _. tt }, tt)

  true-grant_front : (v w : VoterState) → SeenNoMore (grant_front v).state w → AreTrue w (grant_front v).replies
  unfolding grant_front
  true-grant_front v w k = true-grant_to v w (front v.waiting) k

  true-take_release : (v w : VoterState) (c s : ℕ) → SeenNoMore (take_release v c s).state w → AreTrue w (take_release v c s).replies
  true-take_release v w c s = by_release (λ o. SeenNoMore o.state w → AreTrue w o.replies) v c s (λ _ k. true-grant_front (free_vote (finish v c s)) w k) (λ _ _ _. tt) (λ _ _ _. tt)

  true_former : (v w : VoterState) (o : Option Request) → SeenNoMore v w → (S → (q : Request) → o ≡ Some q → get w.waiting q.client ≡ Some q.stamp) → AreTrue w (fail_former v o)
  true_former v w None k waits = tt
  true_former v w (Some q) k waits = (record { voter = sym k.id; seen = sym k.seen; vote = tt; place = λ t. waits t q refl }, tt)

  true_inquiry : (out : Bool) (v w : VoterState) (g : Grant) (o : Option Request) → SeenNoMore v w → w.inquiring ≡ true → v.held ≡ Some g → (S → (q : Request) → o ≡ Some q → get w.waiting q.client ≡ Some q.stamp)
      → AreTrue w (inquiry out v g ++ fail_former v o)
  true_inquiry true v w g o k out is waits = true_former v w o k waits
  true_inquiry false v w g o k out is waits = (record { voter = sym k.id; seen = sym k.seen; vote = tt; place = λ _. (g, k.held g is, refl, refl, out) }, true_former v w o k waits)

  true-join_queue_by : (waits granted : Bool) (v : VoterState) (g : Grant) (c s : ℕ) → v.held ≡ Some g → (S → get v.waiting c ≡ None)
      → AreTrue (join_queue_by waits granted v g c s).state (join_queue_by waits granted v g c s).replies
  true-join_queue_by true granted v g c s is none = (record { voter = refl; seen = refl; vote = tt; place = λ _. here_inserted v.waiting c s }, tt)
  true-join_queue_by false true v g c s is none = (
    record { voter = refl; seen = refl; vote = tt; place = λ _. here_inserted v.waiting c s },
    true_former v (queue v c s) (front v.waiting) (record { id = refl; seen = refl; held = λ g is. is }) (λ t. front_waits v c s (none t)),
  )
  true-join_queue_by false false v g c s is none =
      true_inquiry v.inquiring v (record (queue v c s) { inquiring = true }) g (front v.waiting) (record { id = refl; seen = refl; held = λ g is. is }) refl is (λ t. front_waits v c s (none t))

  true-admit : (v : VoterState) (c s : ℕ) → (S → get v.waiting c ≡ None) → AreTrue (admit v c s).state (admit v c s).replies
  unfolding join_queue
  true-admit v c s none = by_admit (λ o. AreTrue o.state o.replies) v c s (λ _. true-grant_front (queue v c s) _ (goes_on (grant_front (queue v c s)).state))
      (λ g is. true-join_queue_by _ _ v g c s is none)

  true_again_by : (b : Bool) (v : VoterState) (g : Grant) (c s : ℕ) → (g.client == c) ≡ b → v.held ≡ Some g → current_stamp v c ≡ Some s → AreTrue v (again_by b v g c s)
  true_again_by true v g c s e is present =
      let own : g.client ≡ c = grind (arith, nat_tests) in
      let same : g.stamp ≡ s = same_stamp v.held (get v.waiting c) c g s is own present in
      (record { voter = refl; seen = refl; vote = is ∙ (λ i. Some (record { client = own i; stamp = same i; grant = g.grant })); place = λ _. tt }, tt)
  true_again_by false v g c s e is present = (record { voter = refl; seen = refl; vote = tt; place = λ _. waits_beside v.held (get v.waiting c) c g s is e present }, tt)

  true_again : (o : Option Grant) (v : VoterState) (c s : ℕ) → v.held ≡ o → current_stamp v c ≡ Some s → AreTrue v (again v o c s)
  true_again None v c s is present = (record { voter = refl; seen = refl; vote = tt; place = λ _. waits_free v.held (get v.waiting c) c s is present }, tt)
  true_again (Some g) v c s is present = true_again_by _ v g c s refl is present

  true-take_request : (v : VoterState) (c s : ℕ) → (S → GrantsAreOrderly v) → AreTrue (take_request v c s).state (take_request v c s).replies
  true-take_request v c s h = by_request (λ o. AreTrue o.state o.replies) v c s (record {
    stale = λ _. tt;
    repeated = λ present. true_again v.held v c s refl present;
    only = λ _ present. true-admit v c s (λ _. none_waits (held_stamp v.held c) (get v.waiting c) present);
    newer = λ _ t present _.
        let w = (take_release v c t).state in
        let a = admit w c s in
        AllByRecursion-append _ (take_release v c t).replies a.replies (true-take_release v a.state c t (GoesOn-admit w c s)) (true-admit w c s (λ o. gone-take_release v c t present (h o)));
  })

  true_after : (v : VoterState) (c : ℕ) (b : VoterBody) → (S → GrantsAreOrderly v) → AreTrue (outcome_of v c b).state (outcome_of v c b).replies
  true_after v c (asks.Request s) h = true-take_request (see v s) c s (λ t. IsOrderly-see v s (h t))
  true_after v c (asks.Relinquish n) h = by_relinquish (λ o. AreTrue o.state o.replies) v c n tt
      (λ g _. let u = queue (free_vote v) g.client g.stamp in true-grant_front u _ (goes_on (grant_front u).state))
  true_after v c (asks.Release s) h = true-take_release (see v s) _ c s (goes_on (take_release (see v s) c s).state)

pub AllReport-outcome_of : (v : VoterState) (c : ℕ) (b : VoterBody) → AllReport (outcome_of v c b).state.held (outcome_of v c b).replies
AllReport-outcome_of v c b = AllByRecursion-weaker (IsTrue ⊥ (outcome_of v c b).state) _ (λ r k. k.vote) (outcome_of v c b).replies (true_after ⊥ v c b (λ no. absurd no))

-- At most three replies, and at most one LOCKED.

pub record IsFew (most : ℕ) (v : VoterState) (o : Outcome) : Type 0 where
  pub few : length o.replies ≤ most
  pub locked : v.granted + locked_count o.replies ≡ o.state.granted

count_append : (xs ys : List ToClient) → locked_count (xs ++ ys) ≡ locked_count xs + locked_count ys
count_append [] ys = sym (zero-add (locked_count ys))
count_append (x ∷ xs) ys = let rest = count_append xs ys in omega arith

one_at_most : (b : ClientBody) → locked_in b ≤ 1
one_at_most (to_client.Locked stamp grant) = omega arith
one_at_most b = omega arith

count_le : (xs : List ToClient) → locked_count xs ≤ length xs
count_le [] = omega arith
count_le (x ∷ xs) = let one = one_at_most x.body in let rest = count_le xs in omega arith

few-grant_to : (v : VoterState) (o : Option Request) → IsFew 1 v (grant_to v o)
few-grant_to v None = record { few = omega arith; locked = omega arith }
few-grant_to v (Some r) = record { few = omega arith; locked = refl }

few-grant_front : (v : VoterState) → IsFew 1 v (grant_front v)
unfolding grant_front
few-grant_front v = few-grant_to v (front v.waiting)

few-take_release : (v : VoterState) (c s : ℕ) → IsFew 1 v (take_release v c s)
few-take_release v c s = by_release (IsFew 1 v) v c s (λ _. let k = few-grant_front (free_vote (finish v c s)) in record { few = k.few; locked = k.locked })
    (λ _ _. record { few = omega arith; locked = omega arith }) (λ _ _. record { few = omega arith; locked = omega arith })

record IsQuiet (most : ℕ) (replies : List ToClient) : Type 0 where
  few : length replies ≤ most
  locked : locked_count replies ≡ 0

quiet_former : (v : VoterState) (o : Option Request) → IsQuiet 1 (fail_former v o)
quiet_former v None = record { few = omega arith; locked = refl }
quiet_former v (Some q) = record { few = omega arith; locked = refl }

quiet_inquiry : (out : Bool) (v : VoterState) (g : Grant) (o : Option Request) → IsQuiet 2 (inquiry out v g ++ fail_former v o)
quiet_inquiry true v g o = let k = quiet_former v o in let n = k.few in record { few = omega arith; locked = k.locked }
quiet_inquiry false v g o = let k = quiet_former v o in let n = k.few in let l = k.locked in record { few = omega arith; locked = omega arith }

few-join_queue_by : (waits granted : Bool) (v : VoterState) (g : Grant) (c s : ℕ) → IsFew 2 v (join_queue_by waits granted v g c s)
few-join_queue_by true granted v g c s = record { few = omega arith; locked = omega arith }
few-join_queue_by false true v g c s = let k = quiet_former v (front v.waiting) in let n = k.few in let l = k.locked in record { few = omega arith; locked = grind (arith, nat_tests) }
few-join_queue_by false false v g c s = let k = quiet_inquiry v.inquiring v g (front v.waiting) in let n = k.few in let l = k.locked in record { few = n; locked = grind (arith, nat_tests) }

few-admit : (v : VoterState) (c s : ℕ) → IsFew 2 v (admit v c s)
unfolding join_queue
few-admit v c s = by_admit (IsFew 2 v) v c s (λ _. let k = few-grant_front (queue v c s) in let n = k.few in record { few = omega arith; locked = k.locked })
    (λ g _. few-join_queue_by _ _ v g c s)

-- few replies, of which at most one is LOCKED
record IsBrief (replies : List ToClient) : Type 0 where
  few : length replies ≤ 3
  locked : locked_count replies ≤ 1

brief_none : IsBrief []
brief_none = record { few = omega arith; locked = omega arith }

brief_few : (b : Bool) (v : VoterState) (o : Outcome) → IsFew 2 v o → o.state.granted ≡ more b v.granted → IsBrief o.replies
brief_few true v o k g = let n = k.few in let l = k.locked in record { few = omega arith; locked = omega arith }
brief_few false v o k g = let n = k.few in let l = k.locked in record { few = omega arith; locked = omega arith }

brief_one : (v : VoterState) (o : Outcome) → IsFew 1 v o → IsBrief o.replies
brief_one v o k = let n = k.few in record { few = omega arith; locked = omega (arith, count_le o.replies) }

brief_again_by : (b : Bool) (v : VoterState) (g : Grant) (c s : ℕ) → IsBrief (again_by b v g c s)
brief_again_by true v g c s = record { few = omega arith; locked = omega arith }
brief_again_by false v g c s = record { few = omega arith; locked = omega arith }

brief_again : (o : Option Grant) (v : VoterState) (c s : ℕ) → IsBrief (again v o c s)
brief_again None v c s = record { few = omega arith; locked = omega arith }
brief_again (Some g) v c s = brief_again_by _ v g c s

both_brief : (b : Bool) (v w : VoterState) (r a : List ToClient) (n : ℕ) → length r ≤ 1 → length a ≤ 2 → v.granted + locked_count r ≡ w.granted → w.granted + locked_count a ≡ n
    → n ≡ more b v.granted → IsBrief (r ++ a)
both_brief true v w r a n fr fa lr la g = let c = count_append r a in let l = length-append r a in record { few = omega arith; locked = omega arith }
both_brief false v w r a n fr fa lr la g = let c = count_append r a in let l = length-append r a in record { few = omega arith; locked = omega arith }

brief-take_request : (v : VoterState) (c s : ℕ) → IsBrief (take_request v c s).replies
brief-take_request v c s = by_request (λ o. IsBrief o.replies) v c s (record {
  stale = λ _. brief_none;
  repeated = λ _. brief_again v.held v c s;
  only = λ _ _. brief_few _ v (admit v c s) (few-admit v c s) (granted-admit v c s);
  newer = λ _ t present less.
      let w = (take_release v c t).state in
      let r = few-take_release v c t in
      let a = few-admit w c s in
      let granted = granted-compare_by false false v c s t (grind (arith, nat_tests)) (grind (arith, nat_tests)) present in
      both_brief _ v w (take_release v c t).replies (admit w c s).replies (admit w c s).state.granted r.few a.few r.locked a.locked granted;
})

brief_after : (v : VoterState) (c : ℕ) (b : VoterBody) → IsBrief (outcome_of v c b).replies
brief_after v c (asks.Request s) = brief-take_request (see v s) c s
brief_after v c (asks.Relinquish n) = by_relinquish (λ o. IsBrief o.replies) v c n brief_none
    (λ g _. let u = queue (free_vote v) g.client g.stamp in brief_one u (grant_front u) (few-grant_front u))
brief_after v c (asks.Release s) = brief_one (see v s) (take_release (see v s) c s) (few-take_release (see v s) c s)

-- The step.

pub AreAnswers-step : (v : VoterState) (m : ToVoter) (o : Outcome) → IsSound v → step v m ≡ Some o → AreAnswers o
AreAnswers-step v m o sound e =
    let w = (outcome_of v m.client m.body).state in
    let brief = brief_after v m.client m.body in
    let met : AreAnswers (outcome_of v m.client m.body) = record {
      place = AllByRecursion-weaker (IsTrue (Unit {0}) w) (λ r. ReportsPlace w r.client r.body) (λ r k. k.place tt) _
          (true_after (Unit {0}) v m.client m.body (λ _. record { numbered = sound.numbered; apart = sound.apart; free = sound.free }));
      few = brief.few;
      locked = brief.locked;
    } in
    subst AreAnswers (step-Some v m o e).1 met

pub CarrySeen-step : (v : VoterState) (m : ToVoter) (o : Outcome) → step v m ≡ Some o → CarrySeen v m o
CarrySeen-step v m o e =
    let w = (outcome_of v m.client m.body).state in
    let k = KeepsBut-outcome_of v m.client m.body in
    let P : Outcome → Type 0 = λ p. CarrySeen v m p in
    let carried = AllByRecursion-weaker (IsTrue ⊥ w) (λ r. (r.voter ≡ v.id) × (r.seen ≡ seen_after v.seen m.body)) (λ r t. (t.voter ∙ k.id, t.seen ∙ k.seen)) _
    (true_after ⊥ v m.client m.body (λ no. absurd no)) in
    let met : CarrySeen v m (outcome_of v m.client m.body) = record { carried = carried; seen = k.seen; id = k.id; limit = k.limit } in
    subst P (step-Some v m o e).1 met

-- A reminder.

true_inquiry_again : (out : Bool) (v : VoterState) (g : Grant) → v.inquiring ≡ out → v.held ≡ Some g → AreTrue (Unit {0}) v (inquiry_again out v g)
true_inquiry_again true v g out is = (record { voter = refl; seen = refl; vote = tt; place = λ _. (g, is, refl, refl, out) }, tt)
true_inquiry_again false v g out is = tt

true_remind_of : (o : Option Grant) (v : VoterState) → v.held ≡ o → AreTrue (Unit {0}) v (remind_of o v)
true_remind_of None v is = tt
true_remind_of (Some g) v is = (record { voter = refl; seen = refl; vote = is; place = λ _. tt }, true_inquiry_again v.inquiring v g refl is)

true-remind : (v : VoterState) → AreTrue (Unit {0}) v (remind v)
unfolding remind
true-remind v = true_remind_of v.held v refl

pub AllReport-remind : (v : VoterState) → AllReport v.held (remind v)
AllReport-remind v = AllByRecursion-weaker _ _ (λ r (k : IsTrue (Unit {0}) v r). k.vote) (remind v) (true-remind v)

pub AllReportPlace-remind : (v : VoterState) → AllReportPlace v (remind v)
AllReportPlace-remind v = AllByRecursion-weaker _ _ (λ r (k : IsTrue (Unit {0}) v r). k.place tt) (remind v) (true-remind v)

pub AllCarry-remind : (v : VoterState) → AllCarry v.id v.seen (remind v)
AllCarry-remind v = AllByRecursion-weaker _ _ (λ r (k : IsTrue (Unit {0}) v r). (k.voter, k.seen)) (remind v) (true-remind v)
