-- what a step says and gives: a LOCKED is of a new grant, or repeats that of the REQUEST that came
use Rattle.std.proofs.Common.{◌≡◌, ℕ, ◌+◌, ◌<◌, ◌≤◌, Bool, true, false, List, [], ◌∷◌, ◌++◌, refl, sym, ap, subst, ◌∙◌, ◌⊎◌, inl, inr, Option, Some, None, arith}
use Rattle.std.specs.Prelude.{◌==◌, if◌then◌else◌}
use Rattle.std.specs.List.{AllByRecursion}
use Rattle.std.proofs.lemmas.Option.{none-some, same_Some}
use Rattle.message.specs.declared.request.Request.{Request}
use Rattle.message.specs.declared.message.ClientBody.{ClientBody}
use Rattle.message.specs.declared.message.ClientBody.TheVariants as to_client
use Rattle.message.specs.declared.message.ToClient.{ToClient}
use Rattle.message.specs.declared.message.ToVoter.{ToVoter}
use Rattle.message.specs.declared.message.VoterBody.{VoterBody}
use Rattle.message.specs.declared.message.VoterBody.TheVariants as asks
use Rattle.voter.specs.declared.state.Grant.{Grant}
use Rattle.voter.specs.declared.state.VoterState.{VoterState}
use Rattle.voter.specs.Leases.{evict_held, release_of}
use Rattle.voter.specs.Steps.{Outcome, admit, again, again_by, and_then, fail_former, finish, free_vote, grant_front, grant_to, inquiry, is_grant, join_queue, join_queue_by, no_reply, outcome_of, queue, see, step, take_relinquish, take_release, take_request, withdraw}
use Rattle.voter.specs.VoterContract.{Brings}
use Rattle.voter.specs.Waiting.{front}
use Rattle.voter.proofs.Effects.{step-Some}
use Rattle.voter.proofs.Cases.{by_admit, by_release, by_relinquish, by_request}
use Rattle.quiet_time.specs.Quiet.{quiet_step, step_of_old}

-- a LOCKED is of a grant above this number, or repeats that of the REQUEST that came
abbrev pub IsNewOrAgain : ℕ → ℕ → VoterBody → ℕ → ClientBody → Type 0
IsNewOrAgain k client body to (to_client.Locked stamp grant) = (k < grant) ⊎ Brings client body to stamp
IsNewOrAgain k client body to (to_client.Fail stamp) = Unit {0}
IsNewOrAgain k client body to (to_client.Inquire grant) = Unit {0}

abbrev pub AreNewOrAgain : ℕ → ℕ → VoterBody → List ToClient → Type 0
AreNewOrAgain k client body replies = AllByRecursion (λ r. IsNewOrAgain k client body r.client r.body) replies

pub record Rises (k client : ℕ) (body : VoterBody) (v : VoterState) (o : Outcome) : Type 0 where
  pub said : AreNewOrAgain k client body o.replies
  pub most : k ≤ o.state.granted
  pub given : (g : Grant) → o.state.held ≡ Some g → (v.held ≡ Some g) ⊎ (k < g.grant)

all_said : (k c : ℕ) (b : VoterBody) (first more : List ToClient) → AreNewOrAgain k c b first → AreNewOrAgain k c b more → AreNewOrAgain k c b (first ++ more)
all_said k c b [] more none rest = rest
all_said k c b (r ∷ first) more all rest = (all.0, all_said k c b first more all.1 rest)

above_one : (k n : ℕ) → k ≤ n → k < n + 1
above_one k n most = omega (arith, most)

at_most : (k n : ℕ) → k ≤ n → k ≤ n + 1
at_most k n most = omega (arith, most)

module _ (k c : ℕ) (b : VoterBody) where
  same : (v w : VoterState) → k ≤ w.granted → w.held ≡ v.held → Rises k c b v (no_reply w)
  same v w most is = record { said = tt; most = most; given = λ g held. inl (sym is ∙ held) }

  rises-grant_to : (v w : VoterState) (o : Option Request) → k ≤ w.granted → w.held ≡ None → Rises k c b v (grant_to w o)
  rises-grant_to v w None most free = record { said = tt; most = most; given = λ g held. absurd (none-some g (sym free ∙ held)) }
  rises-grant_to v w (Some r) most free = record {
    said = (inl (above_one k w.granted most), tt);
    most = at_most k w.granted most;
    given = λ g held. inr (subst (λ (x : Grant). k < x.grant) (same_Some (record { client = r.client; stamp = r.stamp; grant = w.granted + 1 }) g held) (above_one k w.granted most));
  }

  rises-grant_front : (v w : VoterState) → k ≤ w.granted → w.held ≡ None → Rises k c b v (grant_front w)
  unfolding grant_front
  rises-grant_front v w most free = rises-grant_to v w (front w.waiting) most free

  rises-take_release : (v : VoterState) (d s : ℕ) → k ≤ v.granted → Rises k c b v (take_release v d s)
  rises-take_release v d s most = by_release (Rises k c b v) v d s
      (λ _. rises-grant_front v (free_vote (finish v d s)) most refl)
      (λ _ _. same v (withdraw (finish v d s) d) most refl)
      (λ _ _. same v (finish v d s) most refl)

  said-inquiry : (inquiring : Bool) (v : VoterState) (g : Grant) → AreNewOrAgain k c b (inquiry inquiring v g)
  said-inquiry true v g = tt
  said-inquiry false v g = (tt, tt)

  said-fail_former : (v : VoterState) (o : Option Request) → AreNewOrAgain k c b (fail_former v o)
  said-fail_former v None = tt
  said-fail_former v (Some q) = (tt, tt)

  rises-join_queue_by : (waits granted : Bool) (v : VoterState) (g : Grant) (d s : ℕ) → k ≤ v.granted → Rises k c b v (join_queue_by waits granted v g d s)
  rises-join_queue_by true granted v g d s most = record { said = (tt, tt); most = most; given = λ h held. inl held }
  rises-join_queue_by false true v g d s most = record { said = (tt, said-fail_former v (front v.waiting)); most = most; given = λ h held. inl held }
  rises-join_queue_by false false v g d s most = record {
    said = all_said k c b (inquiry v.inquiring v g) (fail_former v (front v.waiting)) (said-inquiry v.inquiring v g) (said-fail_former v (front v.waiting));
    most = most;
    given = λ h held. inl held;
  }

  rises-admit : (v : VoterState) (d s : ℕ) → k ≤ v.granted → Rises k c b v (admit v d s)
  unfolding join_queue
  rises-admit v d s most = by_admit (Rises k c b v) v d s (λ free. rises-grant_front v (queue v d s) most free) (λ g _. rises-join_queue_by _ _ v g d s most)

  rises-both : (v : VoterState) (x y : Outcome) → Rises k c b v x → Rises k c b x.state y → Rises k c b v (and_then x y)
  rises-both v x y first second = record {
    said = all_said k c b x.replies y.replies first.said second.said;
    most = second.most;
    given = λ g held. elim (second.given g held) [
      | inl before ↦ first.given g before
      | inr new ↦ inr new
    ];
  }

said-again_by : (k : ℕ) (own : Bool) (v : VoterState) (g : Grant) (c s : ℕ) → AreNewOrAgain k c (asks.Request s) (again_by own v g c s)
said-again_by k true v g c s = (inr (refl, refl), tt)
said-again_by k false v g c s = (tt, tt)

said-again : (k : ℕ) (v : VoterState) (held : Option Grant) (c s : ℕ) → AreNewOrAgain k c (asks.Request s) (again v held c s)
said-again k v None c s = (tt, tt)
said-again k v (Some g) c s = said-again_by k (g.client == c) v g c s

rises-take_request : (k c s : ℕ) (v : VoterState) → k ≤ v.granted → Rises k c (asks.Request s) v (take_request v c s)
rises-take_request k c s v most = by_request (Rises k c (asks.Request s) v) v c s (record {
  stale = λ _. same k c (asks.Request s) v v most refl;
  repeated = λ _. record { said = said-again k v v.held c s; most = most; given = λ g held. inl held };
  only = λ _ _. rises-admit k c (asks.Request s) v c s most;
  newer = λ _ t _ _.
      let first = rises-take_release k c (asks.Request s) v c t most in
      rises-both k c (asks.Request s) v (take_release v c t) (admit (take_release v c t).state c s) first (rises-admit k c (asks.Request s) (take_release v c t).state c s first.most);
})

-- the same from a voter that saw a stamp
seen : (k c n : ℕ) (b : VoterBody) (v : VoterState) (o : Outcome) → Rises k c b (see v n) o → Rises k c b v o
seen k c n b v o r = record { said = r.said; most = r.most; given = r.given }

rises-outcome_of : (k c : ℕ) (b : VoterBody) (v : VoterState) → k ≤ v.granted → Rises k c b v (outcome_of v c b)
rises-outcome_of k c (asks.Request s) v most = seen k c s (asks.Request s) v (take_request (see v s) c s) (rises-take_request k c s (see v s) most)
rises-outcome_of k c (asks.Relinquish n) v most =
    by_relinquish (Rises k c (asks.Relinquish n) v) v c n (same k c (asks.Relinquish n) v v most refl)
    (λ g _. rises-grant_front k c (asks.Relinquish n) v (queue (free_vote v) g.client g.stamp) most refl)
rises-outcome_of k c (asks.Release s) v most = seen k c s (asks.Release s) v (take_release (see v s) c s) (rises-take_release k c (asks.Release s) (see v s) c s most)

pub rises-step : (k : ℕ) (v : VoterState) (m : ToVoter) (o : Outcome) → k ≤ v.granted → step v m ≡ Some o → Rises k m.client m.body v o
rises-step k v m o most is = subst (λ (x : Outcome). Rises k m.client m.body v x) (step-Some v m o is).1 (rises-outcome_of k m.client m.body v most)

-- a grant that is let go repeats no REQUEST
as_any : (k c d s : ℕ) (b : VoterBody) (replies : List ToClient) → AreNewOrAgain k c (asks.Release s) replies → AreNewOrAgain k d b replies
as_any k c d s b [] all = tt
as_any k c d s b (r ∷ replies) all = (any_body r.client r.body all.0, as_any k c d s b replies all.1)
  where
    any_body : (to : ℕ) (body : ClientBody) → IsNewOrAgain k c (asks.Release s) to body → IsNewOrAgain k d b to body
    any_body to (to_client.Locked stamp grant) (inl new) = inl new
    any_body to (to_client.Locked stamp grant) (inr none) = absurd none
    any_body to (to_client.Fail stamp) all = tt
    any_body to (to_client.Inquire grant) all = tt

nothing_rises : (k c : ℕ) (b : VoterBody) (v : VoterState) (o : Outcome) → k ≤ v.granted → Some (no_reply v) ≡ Some o → Rises k c b v o
nothing_rises k c b v o most is = subst (λ (x : Outcome). Rises k c b v x) (same_Some (no_reply v) o is) (same k c b v v most refl)

released_rises : (k c : ℕ) (b : VoterBody) (v : VoterState) (g : Grant) (o : Outcome) → k ≤ v.granted → step v (release_of v g) ≡ Some o → Rises k c b v o
released_rises k c b v g o most is =
    let r = rises-step k v (release_of v g) o most is in
    record { said = as_any k g.client c g.stamp b o.replies r.said; most = r.most; given = r.given }

pub rises-evict : (k c : ℕ) (b : VoterBody) (v : VoterState) (held : Option Grant) (n : ℕ) (o : Outcome) → k ≤ v.granted → evict_held held v n ≡ Some o → Rises k c b v o
rises-evict k c b v None n o most is = nothing_rises k c b v o most is
rises-evict k c b v (Some g) n o most is = elim (g.grant == n) as (λ t. (if t then step v (release_of v g) else Some (no_reply v)) ≡ Some o → Rises k c b v o) [
  | true ↦ λ now. released_rises k c b v g o most now
  | false ↦ λ now. nothing_rises k c b v o most now
] is

old_rises : (k : ℕ) (v : VoterState) (m : ToVoter) (b : VoterBody) (o : Outcome) → m.body ≡ b → k ≤ v.granted → step_of_old v m b ≡ Some o → Rises k m.client b v o
old_rises k v m (asks.Request s) o is most e = subst (λ (x : VoterBody). Rises k m.client x v o) is (rises-step k v m o most e)
old_rises k v m (asks.Relinquish n) o is most e = elim (is_grant v.held m.client n) as (λ t. (if t then evict_held v.held v n else Some (no_reply v)) ≡ Some o → Rises k m.client (asks.Relinquish n) v o) [
  | true ↦ λ now. rises-evict k m.client (asks.Relinquish n) v v.held n o most now
  | false ↦ λ now. nothing_rises k m.client (asks.Relinquish n) v o most now
] e
old_rises k v m (asks.Release s) o is most e = subst (λ (x : VoterBody). Rises k m.client x v o) is (rises-step k v m o most e)

-- so with a message that comes in a quiet time
pub rises-quiet_step : (k : ℕ) (old : Bool) (v : VoterState) (m : ToVoter) (o : Outcome) → k ≤ v.granted → quiet_step old v m ≡ Some o → Rises k m.client m.body v o
rises-quiet_step k false v m o most e = rises-step k v m o most e
rises-quiet_step k true v m o most e = old_rises k v m m.body o refl most e
