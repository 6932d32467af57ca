-- who has the vote and who waits, apart from each other: no REQUEST and no RELEASE puts a request back into the queue
use Rattle.std.proofs.Common.{◌≡◌, ◌+◌, ℕ, Bool, true, false, cond, Option, Some, None, refl, sym, ◌∙◌, arith, subst, eqb}
use Rattle.std.specs.FinMap.{get, insert, remove}
use Rattle.std.proofs.lemmas.Bool.Decides.{nat_tests}
use Rattle.std.proofs.lemmas.Option.{none-some, same_Some}
use Rattle.message.specs.declared.request.Request.{Request}
use Rattle.message.specs.declared.message.ToVoter.{ToVoter}
use Rattle.message.specs.declared.message.VoterBody.{VoterBody}
use Rattle.message.specs.declared.message.VoterBody.TheVariants as asks
use Rattle.voter.specs.declared.state.Grant.{Grant}
use Rattle.voter.specs.declared.state.VoterState.{VoterState}
use Rattle.voter.specs.Waiting.{Waiting, front}
use Rattle.voter.specs.Steps.{Outcome, admit, finish, free_vote, grant_front, grant_to, join_queue, join_queue_by, outcome_of, queue, see, step, take_release, take_request}
use Rattle.voter.proofs.Cases.{by_admit, by_release, by_request}
use Rattle.voter.proofs.Effects.{step-Some}
use Rattle.voter.proofs.Front.{front-found}
use Rattle.voter.proofs.Soundness.{get-inserted, get-removed}

-- each request that waits is of the first kind, and the grant is of the second one
pub record Split (P : ℕ → ℕ → Type 0) (Q : Grant → Type 0) (v : VoterState) : Type 0 where
  pub held : (g : Grant) → v.held ≡ Some g → Q g
  pub waiting : (c s : ℕ) → get v.waiting c ≡ Some s → P c s

-- a request of the first kind is of the second one once it is granted
abbrev pub Grants : (ℕ → ℕ → Type 0) → (Grant → Type 0) → Type 0
Grants P Q = (c s n : ℕ) → P c s → Q (record { client = c; stamp = s; grant = n })

-- a message that gives no vote back, of which the request is of the first kind, if it is one
abbrev pub BringsAs : (ℕ → ℕ → Type 0) → ℕ → VoterBody → Type 0
BringsAs P c (asks.Request s) = P c s
BringsAs P c (asks.Relinquish n) = ⊥
BringsAs P c (asks.Release s) = Unit {0}

inserted : (P : ℕ → ℕ → Type 0) (w : Waiting) (c s : ℕ) → ((d t : ℕ) → get w d ≡ Some t → P d t) → P c s → (d t : ℕ) → get (insert w c s) d ≡ Some t → P d t
inserted P w c s h p d t is = elim (eqb d c) as (λ b. eqb d c ≡ b → cond b (Some s) (get w d) ≡ Some t → P d t) [
  | true ↦ λ e here. let same : c ≡ d = grind (arith, nat_tests) in subst (λ n. P d n) (same_Some s t here) (subst (λ n. P n s) same p)
  | false ↦ λ e there. h d t there
] refl (sym (get-inserted w c s d) ∙ is)

removed : (P : ℕ → ℕ → Type 0) (w : Waiting) (c : ℕ) → ((d t : ℕ) → get w d ≡ Some t → P d t) → (d t : ℕ) → get (remove w c) d ≡ Some t → P d t
removed P w c h d t is = elim (eqb d c) as (λ b. cond b None (get w d) ≡ Some t → P d t) [
  | true ↦ λ here. absurd (none-some t here)
  | false ↦ λ there. h d t there
] (sym (get-removed w c d) ∙ is)

module _ (P : ℕ → ℕ → Type 0) (Q : Grant → Type 0) (up : Grants P Q) where
  split-grant_to : (v : VoterState) (o : Option Request) → front v.waiting ≡ o → Split P Q v → Split P Q (grant_to v o).state
  split-grant_to v None is h = h
  split-grant_to v (Some r) is h =
      let q = up r.client r.stamp (v.granted + 1) (h.waiting r.client r.stamp (front-found v.waiting r is)) in
      record {
        held = λ g same. subst Q (same_Some _ g same) q;
        waiting = removed P v.waiting r.client h.waiting;
      }

  split-grant_front : (v : VoterState) → Split P Q v → Split P Q (grant_front v).state
  unfolding grant_front
  split-grant_front v h = split-grant_to v (front v.waiting) refl h

  split-take_release : (v : VoterState) (c s : ℕ) → Split P Q v → Split P Q (take_release v c s).state
  split-take_release v c s h = by_release (λ o. Split P Q o.state) v c s
      (λ _. split-grant_front (free_vote (finish v c s)) (record { held = λ g is. absurd (none-some g is); waiting = h.waiting }))
      (λ _ _. record { held = h.held; waiting = removed P v.waiting c h.waiting })
      (λ _ _. record { held = h.held; waiting = h.waiting })

  split-queue : (v : VoterState) (c s : ℕ) → P c s → Split P Q v → Split P Q (queue v c s)
  split-queue v c s p h = record { held = h.held; waiting = inserted P v.waiting c s h.waiting p }

  split-join_queue_by : (waits granted : Bool) (v : VoterState) (g : Grant) (c s : ℕ) → P c s → Split P Q v → Split P Q (join_queue_by waits granted v g c s).state
  split-join_queue_by false false v g c s p h = let k = split-queue v c s p h in record { held = k.held; waiting = k.waiting }
  split-join_queue_by waits granted v g c s p h = split-queue v c s p h

  split-admit : (v : VoterState) (c s : ℕ) → P c s → Split P Q v → Split P Q (admit v c s).state
  unfolding join_queue
  split-admit v c s p h = by_admit (λ o. Split P Q o.state) v c s (λ _. split-grant_front (queue v c s) (split-queue v c s p h))
      (λ g _. split-join_queue_by _ _ v g c s p h)

  split-take_request : (v : VoterState) (c s : ℕ) → P c s → Split P Q v → Split P Q (take_request v c s).state
  split-take_request v c s p h = by_request (λ o. Split P Q o.state) v c s (record {
    stale = λ _. h;
    repeated = λ _. h;
    only = λ _ _. split-admit v c s p h;
    newer = λ _ t _ _. split-admit (take_release v c t).state c s p (split-take_release v c t h);
  })

  split-outcome_of : (v : VoterState) (c : ℕ) (b : VoterBody) → BringsAs P c b → Split P Q v → Split P Q (outcome_of v c b).state
  split-outcome_of v c (asks.Request s) p h = split-take_request (see v s) c s p (record { held = h.held; waiting = h.waiting })
  split-outcome_of v c (asks.Relinquish n) none h = absurd none
  split-outcome_of v c (asks.Release s) p h = split-take_release (see v s) c s (record { held = h.held; waiting = h.waiting })

  pub split-step : (v : VoterState) (m : ToVoter) (o : Outcome) → step v m ≡ Some o → BringsAs P m.client m.body → Split P Q v → Split P Q o.state
  split-step v m o e p h = subst (λ (k : Outcome). Split P Q k.state) (step-Some v m o e).1 (split-outcome_of v m.client m.body p h)
