-- The contract of a client.
use Rattle.std.proofs.Common.{◌≡◌, ◌≢◌, ℕ, ◌+◌, ◌≤◌, Bool, true, false, ◌&&◌, not, ltb, eqb, List, refl, sym, ap, subst, ◌∙◌, ◌⊎◌, inl, inr, arith, Ok}
use Rattle.std.specs.Prelude.{◌==◌}
use Rattle.std.proofs.lemmas.Bool.{and_parts}
use Rattle.std.proofs.lemmas.Bool.Decides.{nat_tests}
use Rattle.message.specs.declared.message.ToVoter.{ToVoter}
use Rattle.message.specs.declared.message.ToClient.{ToClient}
use Rattle.message.specs.declared.message.VoterBody.TheVariants as asks
use Rattle.requester.specs.declared.state.Phase.{Phase}
use Rattle.requester.specs.declared.state.Phase.TheVariants.{Idle, Asking, Inside}
use Rattle.requester.specs.declared.state.Seen.{Seen}
use Rattle.requester.specs.declared.state.Seen.TheVariants.{Nothing, Left}
use Rattle.requester.specs.declared.state.ClientState.{ClientState}
use Rattle.requester.specs.Words.{is_idle, is_inside, members, held_of, holds, holds_under, last_of}
use Rattle.requester.specs.Soundness.{IsSound}
use Rattle.requester.specs.Votes.{KeepsRequest, IsGiving, IsReleasing, VoteFate}
use Rattle.requester.specs.RequesterContract.{Accepts, IsLive, IsLocked, Locks, Sees, KeepsQuorum, Says, MeetsContract, Repeats, AllRepeat}
use Rattle.requester.specs.Steps.{Outcome, clear_votes, begin_request, send_requests, tell}
use Rattle.requester.specs.Steps.{take, end_request, Cause, Asks, Takes, Leaves, GivesUp, step, remind, remind_in, remind_by, remind_member}
use Rattle.requester.proofs.Members.{absurd-true_false, AllByRecursion-map_members, AllByRecursion-flat_map_members}
use Rattle.requester.proofs.Messages.{KeepsRequest-take, SendsBack-take, VoteFate-take, outside_then}
use Rattle.requester.proofs.SoundSteps.{busy_after, is_asking-outside}
use Rattle.requester.proofs.SoundSteps.{Ok-same, ask-Ok, leave-Ok, give_up-Ok}
use Rattle.numbers.proofs.Lists.{AllByRecursion-weaker, slice_index-replicate_zero}

holds_under-parts : (x : ClientState) (v g : ℕ) → holds_under x v g ≡ true → (holds x v ≡ true) × (held_of x v ≡ g)
holds_under-parts x v g e = let p = and_parts (holds x v) (held_of x v == g) e in (p.0, grind (arith, nat_tests))

holds_under-from_parts : (x : ClientState) (v g : ℕ) → holds x v ≡ true → held_of x v ≡ g → holds_under x v g ≡ true
holds_under-from_parts x v g h e = grind (arith, nat_tests)

-- Any message

is_current-false : (p : Phase) (s t : ℕ) → (not (is_idle p) && s == t) ≡ false → (is_idle p ≡ true) ⊎ (s ≢ t)
is_current-false Idle s t e = inl refl
is_current-false p s t e = inr (λ same. grind (arith, nat_tests))

last_later : (x : ClientState) (m : ToClient) (o : Outcome) (v : ℕ) → IsSound x → VoteFate m x o v → last_of x v ≤ last_of o.state v
last_later x m o v s (inl kept) = (let last = kept.last in omega arith)
last_later x m o v s (inr (inl brought)) = (let last = brought.last in omega arith)
last_later x m o v s (inr (inr back)) = (let fresh = (s.held v back.had).fresh in let last = back.last in omega arith)

last_by : (x : ClientState) (m : ToClient) (o : Outcome) (v : ℕ) → VoteFate m x o v → (last_of o.state v ≡ last_of x v) ⊎ (holds_under x v (last_of o.state v) ≡ true)
last_by x m o v (inl kept) = inl kept.last
last_by x m o v (inr (inl brought)) = inl brought.last
last_by x m o v (inr (inr back)) = inr (holds_under-from_parts x v (last_of o.state v) back.had (sym back.last))

held_by : (x : ClientState) (m : ToClient) (o : Outcome) (v g : ℕ) → KeepsRequest x m o → holds_under o.state v g ≡ true → VoteFate m x o v
    → ((holds_under x v g ≡ true) × (o.state.stamp ≡ x.stamp)) ⊎ (IsLocked (Takes m) v o.state.stamp g × IsLive o.state v o.state.stamp g)
held_by x m o v g k h (inl kept) = inl (ap (λ n. ltb 0 n && eqb n g) (sym kept.held) ∙ h, k.stamp)
held_by x m o v g k h (inr (inl brought)) =
    let number = (holds_under-parts o.state v g h).1 in
    let newer = brought.newer in
    let last = brought.last in
    inr (
      subst (λ b. Locks m.voter b v o.state.stamp g) (sym brought.body) (sym brought.voter, k.stamp, sym number),
      record { busy = busy_after x m o k brought.busy; current = refl; fresh = omega arith },
    )
held_by x m o v g k h (inr (inr back)) = absurd-true_false (holds o.state v) (holds_under-parts o.state v g h).0 (ap (ltb 0) back.gone)

idle_same : (x : ClientState) (m : ToClient) (o : Outcome) → KeepsRequest x m o → is_idle o.state.phase ≡ is_idle x.phase
idle_same x m o k = elim k.phase [ inl same ↦ ap is_idle same.0 | inr enters ↦ ap is_idle enters.after ∙ sym enters.busy ]

says : (x : ClientState) (m : ToClient) (o : Outcome) (n : ToVoter) → KeepsRequest x m o → IsGiving m x o n ⊎ IsReleasing m x n → (n.client ≡ x.id) × Says x (Takes m) o.state n.voter n.body
says x m o n k (inl gives) =
    let vote = gives.vote in (
      gives.client,
      subst (λ b. Says x (Takes m) o.state n.voter b) (sym gives.body) (sym vote.last, holds_under-from_parts x n.voter (held_of x n.voter) vote.had refl, ap (ltb 0) vote.gone),
    )
says x m o n k (inr releases) = (
  releases.client,
  subst (λ b. Says x (Takes m) o.state n.voter b) (sym releases.body) (inr (
    (releases.grant, subst (λ b. Locks m.voter b n.voter releases.stamp releases.grant) (sym releases.locked) (releases.voter, refl, refl)),
    elim (is_current-false x.phase releases.stamp x.stamp releases.over) [
      | inl idle ↦ inl (idle_same x m o k ∙ idle)
      | inr other ↦ inr (λ same. other (same ∙ k.stamp))
    ],
  )),
)

pub MeetsContract-take : (x : ClientState) (m : ToClient) → IsSound x → MeetsContract x (Takes m) (take x m)
MeetsContract-take x m s =
    let o = take x m in
    let k = KeepsRequest-take x m in
    let stamp = k.stamp in
    record {
      id = k.id;
      limit = k.limit;
      later = record { stamp = omega arith; last = λ v. last_later x m o v s (VoteFate-take x m v s); idle = λ _ idle. idle_same x m o k ∙ idle };
      held = λ v g h. held_by x m o v g k h (VoteFate-take x m v s);
      last = λ v. last_by x m o v (VoteFate-take x m v s);
      out = AllByRecursion-weaker (λ n. IsGiving m x o n ⊎ IsReleasing m x n) (λ n. (n.client ≡ x.id) × Says x (Takes m) o.state n.voter n.body) (λ n. says x m o n k) o.out (SendsBack-take x m s);
      seen = elim k.phase [
        | inl same ↦ subst (λ (seen : Seen). Sees x.phase seen o.state.phase) (sym same.1) (ap is_inside (sym same.0))
        | inr enters ↦ subst (λ (seen : Seen). Sees x.phase seen o.state.phase) (sym enters.seen) (outside_then x m s enters.counts, ap is_inside enters.after)
      ];
      quorum = (
        ap (λ q. q.items) k.quorum,
        idle_same x m o k,
        λ inside. elim k.phase [ inl same ↦ ap is_inside same.0 ∙ inside | inr enters ↦ ap is_inside enters.after ],
      );
    }

-- Calls

clear_votes-holds_under_nothing : {A : Type 0} (x : ClientState) (v g : ℕ) → holds_under (clear_votes x) v g ≡ true → A
clear_votes-holds_under_nothing x v g h = absurd-true_false (holds (clear_votes x) v) (holds_under-parts (clear_votes x) v g h).0 (ap (ltb 0) (slice_index-replicate_zero 64 v))

pub is_idle-outside : (p : Phase) → is_idle p ≡ true → is_inside p ≡ false
is_idle-outside Inside e = sym e
is_idle-outside p e = refl

MeetsContract-send_requests : (x : ClientState) (q : List ℕ) → IsSound x → is_idle x.phase ≡ true → MeetsContract x (Asks q) (send_requests x q)
MeetsContract-send_requests x q s idle =
    let clock = s.clock in
    record {
      id = refl;
      limit = refl;
      later = record { stamp = omega arith; last = λ v. omega arith; idle = λ same _. absurd (omega arith) };
      held = λ v g h. clear_votes-holds_under_nothing x v g h;
      last = λ v. inl refl;
      out = AllByRecursion-map_members (λ m. (m.client ≡ x.id) × Says x (Asks q) (begin_request x q) m.voter m.body) (λ v. tell (begin_request x q) v (asks.Request (x.clock + 1))) q (λ v _. (refl, refl));
      seen = is_idle-outside x.phase idle;
      quorum = refl;
    }

-- the request is over
MeetsContract-end_request : (x : ClientState) (seen : Seen) (cause : Cause) → Sees x.phase seen Idle → KeepsQuorum x cause (end_request x seen).state → MeetsContract x cause (end_request x seen)
MeetsContract-end_request x seen cause sees keeps =
    let y = (end_request x seen).state in
    record {
      id = refl;
      limit = refl;
      later = record { stamp = omega arith; last = λ v. omega arith; idle = λ _ _. refl };
      held = λ v g h. clear_votes-holds_under_nothing x v g h;
      last = λ v. inl refl;
      out = AllByRecursion-map_members (λ m. (m.client ≡ x.id) × Says x cause y m.voter m.body) (λ v. tell x v (asks.Release x.stamp)) (members x) (λ v _. (refl, inl (refl, refl)));
      seen = sees;
      quorum = keeps;
    }

pub MeetsContract-step : (x : ClientState) (cause : Cause) (o : Outcome) → IsSound x → Accepts x cause → step x cause ≡ Ok o → MeetsContract x cause o
unfolding step
MeetsContract-step x (Asks q) o s accepts e = let k = ask-Ok x q o e in subst (λ (p : Outcome). MeetsContract x (Asks q) p) k.2 (MeetsContract-send_requests x q s k.0)
MeetsContract-step x (Takes m) o s accepts e = subst (λ (p : Outcome). MeetsContract x (Takes m) p) (Ok-same (take x m) o e) (MeetsContract-take x m s)
MeetsContract-step x Leaves o s accepts e =
    let k = leave-Ok x o e in
    subst (λ (p : Outcome). MeetsContract x Leaves p) k.1 (MeetsContract-end_request x Left Leaves (k.0, refl) (refl, refl))
MeetsContract-step x GivesUp o s accepts e =
    let k = give_up-Ok x o e in
    subst (λ (p : Outcome). MeetsContract x GivesUp p) k.1 (MeetsContract-end_request x Nothing GivesUp (is_asking-outside x.phase k.0) (refl, refl))

-- Reminders

AllRepeat-remind_by : (held given : Bool) (x : ClientState) (v : ℕ) → AllRepeat x (remind_by held given x v)
AllRepeat-remind_by true given x v = tt
AllRepeat-remind_by false false x v = ((refl, refl), tt)
AllRepeat-remind_by false true x v = ((refl, refl), ((refl, refl), tt))

AllRepeat-remind_in : (p : Phase) (x : ClientState) → AllRepeat x (remind_in p x)
AllRepeat-remind_in Asking x = AllByRecursion-flat_map_members (λ m. (m.client ≡ x.id) × Repeats x m.voter m.body) (remind_member x) (members x) (λ v _. AllRepeat-remind_by _ _ x v)
AllRepeat-remind_in p x = tt

pub AllRepeat-remind : (x : ClientState) → AllRepeat x (remind x)
unfolding remind
AllRepeat-remind x = AllRepeat-remind_in x.phase x
