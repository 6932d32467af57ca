-- what each event keeps of all voters: their votes are of plans that they did not retire, and begin in order
use Rattle.std.proofs.Common.{◌≡◌, ℕ, ◌+◌, ◌<◌, ◌≤◌, Bool, true, false, List, [], ◌∷◌, Option, Some, None, refl, sym, ap, subst, ◌∙◌, arith}
use Rattle.std.specs.Prelude.{◌==◌, ◌&&◌, ◌||◌, not, nat_le, nat_lt, is_none, if◌then◌else◌}
use Rattle.std.specs.List.{AllByRecursion}
use Rattle.std.proofs.lemmas.Bool.{and_parts, eqb-true, false≢true, not-true}
use Rattle.std.proofs.lemmas.Bool.Decides.{nat_tests}
use Rattle.std.proofs.lemmas.Option.{none-some, same_Some}
use Rattle.numbers.specs.Sets.{has}
use Rattle.generations.specs.Plans.{Plans}
use Rattle.generations.specs.Voters.{Kept, Request, Voter, given, is_by, is_of, is_same, may_give, may_retire, next_taken, retired}
use Rattle.generations.specs.Exchanges.{AreInOrder, Crashes, Ends, Event, Gives, IsFirst, IsInOrder, IsRetired, Retires, Saves, Takes, World, all_happen, happens, set, turned}

-- ---- one voter among others

set_test : (P : ℕ → Voter → Type 0) (w : World) (v : ℕ) (x : Voter) (u : ℕ) (b : Bool) → (v == u) ≡ b → P v x → P u (w u) → P u (if b then x else w u)
set_test P w v x u false e here there = there
set_test P w v x u true e here there = subst (λ (o : ℕ). P o x) (eqb-true v u e) here

-- what holds of a voter that changed, and of each one before, holds of each one
pub set_all : (P : ℕ → Voter → Type 0) (w : World) (v : ℕ) (x : Voter) → P v x → ((u : ℕ) → P u (w u)) → (u : ℕ) → P u (set w v x u)
set_all P w v x here there u = set_test P w v x u (v == u) refl here (there u)

member_test : (P : ℕ → Type 0) (x : ℕ) (xs : List ℕ) (v : ℕ) (b : Bool) → (x == v) ≡ b → P x → (has xs v ≡ true → P v) → b || has xs v ≡ true → P v
member_test P x xs v true e here there is = subst P (eqb-true x v e) here
member_test P x xs v false e here there is = there is

-- what holds of all members holds of each
pub all_of : (P : ℕ → Type 0) (q : List ℕ) (v : ℕ) → AllByRecursion P q → has q v ≡ true → P v
all_of P [] v all is = absurd (false≢true is)
all_of P (x ∷ xs) v all is = member_test P x xs v (x == v) refl all.0 (λ more. all_of P xs v all.1 more) is

-- ---- plans are retired for good

-- each voter retired what it had retired before
abbrev pub Grows : World → World → Type 0
Grows w after = (u : ℕ) → (w u).saved.oldest ≤ (after u).saved.oldest

pub set_grows : (w : World) (v : ℕ) (x : Voter) → (w v).saved.oldest ≤ x.saved.oldest → Grows w (set w v x)
set_grows w v x more = set_all (λ u y. (w u).saved.oldest ≤ y.saved.oldest) w v x more (λ u. omega arith)

pub still_retired : (plans : Plans) (w after : World) → Grows w after → (plan : ℕ) → IsRetired plans w plan → IsRetired plans after plan
still_retired plans w after grows plan is q among =
    let at = is q among in
    let less = at.2 in
    let more = grows at.0 in
    (at.0, at.1, omega arith)

-- ---- one voter

-- whoever was told has the vote, live and saved, and each vote is of a plan that is not retired
pub record IsRight (x : Voter) : Type 0 where
  pub live_told : (r : Request) → x.told r ≡ true → x.live.vote ≡ Some r
  pub saved_told : (r : Request) → x.told r ≡ true → x.saved.vote ≡ Some r
  pub live_taken : (r : Request) → x.live.vote ≡ Some r → x.live.oldest ≤ r.plan
  pub saved_taken : (r : Request) → x.saved.vote ≡ Some r → x.saved.oldest ≤ r.plan
  pub grows : x.saved.oldest ≤ x.live.oldest

abbrev request_of : ℕ → ℕ → ℕ → Request
request_of client stamp plan = record { client = client; stamp = stamp; plan = plan }

-- two requests that are the same by the test are equal
same_request : (r s : Request) → is_same r s ≡ true → r ≡ s
same_request r s is =
    let parts = and_parts (r.client == s.client) ((r.stamp == s.stamp) && (r.plan == s.plan)) is in
    let more = and_parts (r.stamp == s.stamp) (r.plan == s.plan) parts.1 in
    ap (λ (n : ℕ). request_of n r.stamp r.plan) (eqb-true r.client s.client parts.0)
    ∙ ap (λ (n : ℕ). request_of s.client n r.plan) (eqb-true r.stamp s.stamp more.0)
    ∙ ap (λ (n : ℕ). request_of s.client s.stamp n) (eqb-true r.plan s.plan more.1)

-- the request that has the vote by the test has it
holder_of : (vote : Option Request) (r : Request) → is_of vote r ≡ true → vote ≡ Some r
holder_of None r is = absurd (false≢true is)
holder_of (Some s) r is = ap (λ (q : Request). Some q) (same_request s r is)

give_right : (x : Voter) (r : Request) (t : Bool) → may_give x.live r ≡ t → IsRight x
    → IsRight (turned x (if t then record { vote = Some r; oldest = x.live.oldest; newest = x.live.newest } else x.live))
give_right x r false e is = record { live_told = is.live_told; saved_told = is.saved_told; live_taken = is.live_taken; saved_taken = is.saved_taken; grows = is.grows }
give_right x r true e is =
    let parts = and_parts (is_none x.live.vote) (nat_le x.live.oldest r.plan && nat_le r.plan x.live.newest) e in
    let least : x.live.oldest ≤ r.plan = (let h = (and_parts (nat_le x.live.oldest r.plan) (nat_le r.plan x.live.newest) parts.1).0 in grind (arith, nat_tests)) in
    record {
      live_told = λ s told. absurd (false≢true (sym (ap (λ (o : Option Request). is_none o) (is.live_told s told)) ∙ parts.0));
      saved_told = is.saved_told;
      live_taken = λ s has_it. subst (λ (q : Request). x.live.oldest ≤ q.plan) (same_Some r s has_it) least;
      saved_taken = is.saved_taken;
      grows = is.grows;
    }

-- a vote that ends
abbrev pub end_at : Voter → Request → Bool → Voter
end_at x r t = record {
  live = if t then record { vote = None; oldest = x.live.oldest; newest = x.live.newest } else x.live;
  saved = x.saved;
  told = λ s. x.told s && not (is_same s r);
}

-- the request had no vote that ends, if another one was told
untold : (vote : Option Request) (r s : Request) → is_of vote r ≡ true → vote ≡ Some s → not (is_same s r) ≡ true → ⊥
untold vote r s is has_it other = false≢true (sym (not-true _ other) ∙ (sym (ap (λ (o : Option Request). is_of o r) has_it) ∙ is))

end_right : (x : Voter) (r : Request) (t : Bool) → is_of x.live.vote r ≡ t → IsRight x → IsRight (end_at x r t)
end_right x r false e is = record {
  live_told = λ s told. is.live_told s (and_parts (x.told s) (not (is_same s r)) told).0;
  saved_told = λ s told. is.saved_told s (and_parts (x.told s) (not (is_same s r)) told).0;
  live_taken = is.live_taken;
  saved_taken = is.saved_taken;
  grows = is.grows;
}
end_right x r true e is = record {
  live_told = λ s told. (let parts = and_parts (x.told s) (not (is_same s r)) told in absurd (untold x.live.vote r s e (is.live_told s parts.0) parts.1));
  saved_told = λ s told. is.saved_told s (and_parts (x.told s) (not (is_same s r)) told).0;
  live_taken = λ s has_it. absurd (none-some s has_it);
  saved_taken = is.saved_taken;
  grows = is.grows;
}

-- a voter that saves, and tells
abbrev pub save_at : Voter → Voter
save_at x = record { live = x.live; saved = x.live; told = λ r. x.told r || is_of x.live.vote r }

told_now : (x : Voter) → IsRight x → (r : Request) (t : Bool) → x.told r ≡ t → t || is_of x.live.vote r ≡ true → x.live.vote ≡ Some r
told_now x is r true e told = is.live_told r e
told_now x is r false e told = holder_of x.live.vote r told

save_right : (x : Voter) → IsRight x → IsRight (save_at x)
save_right x is = record {
  live_told = λ r told. told_now x is r (x.told r) refl told;
  saved_told = λ r told. told_now x is r (x.told r) refl told;
  live_taken = is.live_taken;
  saved_taken = is.live_taken;
  grows = omega arith;
}

-- a vote that no request of an older plan has
later_plan : (vote : Option Request) (plan : ℕ) → is_by vote plan ≡ false → (r : Request) → vote ≡ Some r → plan < r.plan
later_plan None plan e r is = absurd (none-some r is)
later_plan (Some s) plan e r is =
    let later : plan < s.plan = grind (arith, nat_tests) in
    subst (λ (q : Request). plan < q.plan) (same_Some s r is) later

retire_right : (x : Voter) (t : Bool) → may_retire x.live ≡ t → IsRight x
    → IsRight (turned x (if t then record { vote = x.live.vote; oldest = x.live.oldest + 1; newest = x.live.newest } else x.live))
retire_right x false e is = record { live_told = is.live_told; saved_told = is.saved_told; live_taken = is.live_taken; saved_taken = is.saved_taken; grows = is.grows }
retire_right x true e is =
    let parts = and_parts (nat_lt x.live.oldest x.live.newest) (not (is_by x.live.vote x.live.oldest)) e in
    let grows = is.grows in
    record {
      live_told = is.live_told;
      saved_told = is.saved_told;
      live_taken = λ r has_it. (let later = later_plan x.live.vote x.live.oldest (not-true _ parts.1) r has_it in omega arith);
      saved_taken = is.saved_taken;
      grows = omega arith;
    }

-- ---- all voters

-- the votes of a voter are in order
pub record Began (plans : Plans) (w : World) (x : Voter) : Type 0 where
  pub live : (r : Request) → x.live.vote ≡ Some r → (plan : ℕ) → plan + 2 ≤ r.plan → IsRetired plans w plan
  pub saved : (r : Request) → x.saved.vote ≡ Some r → (plan : ℕ) → plan + 2 ≤ r.plan → IsRetired plans w plan

-- each voter is right, and its votes are in order
pub record AreRight (plans : Plans) (w : World) : Type 0 where
  pub right : (v : ℕ) → IsRight (w v)
  pub began : (v : ℕ) → Began plans w (w v)

began_later : (plans : Plans) (w after : World) → Grows w after → (x : Voter) → Began plans w x → Began plans after x
began_later plans w after grows x is = record {
  live = λ r has_it plan few. still_retired plans w after grows plan (is.live r has_it plan few);
  saved = λ r has_it plan few. still_retired plans w after grows plan (is.saved r has_it plan few);
}

goes_on : (plans : Plans) (w : World) (v : ℕ) (y : Voter) → AreRight plans w → (w v).saved.oldest ≤ y.saved.oldest → IsRight y → Began plans w y → AreRight plans (set w v y)
goes_on plans w v y is more right began =
    let grows = set_grows w v y more in
    record {
      right = set_all (λ u x. IsRight x) w v y right is.right;
      began = set_all (λ u x. Began plans (set w v y) x) w v y (began_later plans w (set w v y) grows y began) (λ u. began_later plans w (set w v y) grows (w u) (is.began u));
    }

give_began : (plans : Plans) (w : World) (x : Voter) (r : Request) (t : Bool) → may_give x.live r ≡ t → (may_give x.live r ≡ true → (plan : ℕ) → plan + 2 ≤ r.plan → IsRetired plans w plan) → Began plans w x
    → Began plans w (turned x (if t then record { vote = Some r; oldest = x.live.oldest; newest = x.live.newest } else x.live))
give_began plans w x r false e order is = record { live = is.live; saved = is.saved }
give_began plans w x r true e order is = record {
  live = λ s has_it plan few. order e plan (subst (λ (q : Request). plan + 2 ≤ q.plan) (sym (same_Some r s has_it)) few);
  saved = is.saved;
}

end_began : (plans : Plans) (w : World) (x : Voter) (r : Request) (t : Bool) → Began plans w x → Began plans w (end_at x r t)
end_began plans w x r false is = record { live = is.live; saved = is.saved }
end_began plans w x r true is = record { live = λ s has_it. absurd (none-some s has_it); saved = is.saved }

retire_began : (plans : Plans) (w : World) (x : Voter) (t : Bool) → Began plans w x
    → Began plans w (turned x (if t then record { vote = x.live.vote; oldest = x.live.oldest + 1; newest = x.live.newest } else x.live))
retire_began plans w x false is = record { live = is.live; saved = is.saved }
retire_began plans w x true is = record { live = is.live; saved = is.saved }

step_on : (plans : Plans) (w : World) (e : Event) → AreRight plans w → IsInOrder plans w e → AreRight plans (happens w e)
step_on plans w (Gives v r) is order =
    goes_on plans w v (turned (w v) (given (w v).live r)) is (omega arith) (give_right (w v) r (may_give (w v).live r) refl (is.right v))
    (give_began plans w (w v) r (may_give (w v).live r) refl order (is.began v))
step_on plans w (Ends v r) is order =
    goes_on plans w v (end_at (w v) r (is_of (w v).live.vote r)) is (omega arith) (end_right (w v) r (is_of (w v).live.vote r) refl (is.right v))
    (end_began plans w (w v) r (is_of (w v).live.vote r) (is.began v))
step_on plans w (Takes v) is order =
    let right = is.right v in
    let began = is.began v in
    goes_on plans w v (turned (w v) (next_taken (w v).live)) is (omega arith)
    (record { live_told = right.live_told; saved_told = right.saved_told; live_taken = right.live_taken; saved_taken = right.saved_taken; grows = right.grows })
    (record { live = began.live; saved = began.saved })
step_on plans w (Retires v) is order =
    goes_on plans w v (turned (w v) (retired (w v).live)) is (omega arith) (retire_right (w v) (may_retire (w v).live) refl (is.right v))
    (retire_began plans w (w v) (may_retire (w v).live) (is.began v))
step_on plans w (Saves v) is order =
    let began = is.began v in
    goes_on plans w v (save_at (w v)) is (is.right v).grows (save_right (w v) (is.right v)) (record { live = began.live; saved = began.live })
step_on plans w (Crashes v) is order =
    let right = is.right v in
    let began = is.began v in
    goes_on plans w v (turned (w v) (w v).saved) is (omega arith)
    (record { live_told = right.saved_told; saved_told = right.saved_told; live_taken = right.saved_taken; saved_taken = right.saved_taken; grows = omega arith })
    (record { live = began.saved; saved = began.saved })

pub all_on : (plans : Plans) (w : World) (es : List Event) → AreRight plans w → AreInOrder plans w es → AreRight plans (all_happen w es)
all_on plans w [] is order = is
all_on plans w (e ∷ es) is order = all_on plans (happens w e) es (step_on plans w e is order.0) order.1

no_vote : (vote : Option Request) → vote ≡ None → (r : Request) → vote ≡ Some r → ⊥
no_vote vote nobody r is = none-some r (sym nobody ∙ is)

pub right_first : (plans : Plans) (w : World) → IsFirst w → AreRight plans w
right_first plans w first =
    let saved_none : (v : ℕ) → (w v).saved.vote ≡ None = λ v. sym (ap (λ (k : Kept). k.vote) (first v).same) ∙ (first v).nobody in
    record {
      right = λ v. record {
        live_told = λ r told. absurd (false≢true (sym ((first v).untold r) ∙ told));
        saved_told = λ r told. absurd (false≢true (sym ((first v).untold r) ∙ told));
        live_taken = λ r has_it. absurd (no_vote (w v).live.vote (first v).nobody r has_it);
        saved_taken = λ r has_it. absurd (no_vote (w v).saved.vote (saved_none v) r has_it);
        grows = (let same = ap (λ (k : Kept). k.oldest) (first v).same in omega arith);
      };
      began = λ v. record {
        live = λ r has_it. absurd (no_vote (w v).live.vote (first v).nobody r has_it);
        saved = λ r has_it. absurd (no_vote (w v).saved.vote (saved_none v) r has_it);
      };
    }
