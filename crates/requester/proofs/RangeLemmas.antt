-- To whom a client speaks, and with which numbers.
use Rattle.std.proofs.Common.{◌≡◌, ℕ, ◌+◌, ◌<◌, ◌≤◌, Bool, true, false, List, refl, sym, ap, subst, ◌∙◌, ◌⊎◌, inl, inr, arith, Ok}
use Rattle.std.proofs.lemmas.Bool.Decides.{nat_tests}
use Rattle.numbers.specs.Sets.{has, IsSet}
use Rattle.numbers.proofs.SetLemmas.{has-IsSet_below}
use Rattle.numbers.proofs.Lists.{AllByRecursion-weaker}
use Rattle.message.specs.declared.message.ToVoter.{ToVoter}
use Rattle.message.specs.declared.message.ToClient.{ToClient}
use Rattle.message.specs.declared.message.VoterBody.TheVariants as asks
use Rattle.requester.specs.declared.state.Phase.{Phase}
use Rattle.requester.specs.declared.state.Phase.TheVariants.{Idle, Asking}
use Rattle.requester.specs.declared.state.Seen.{Seen}
use Rattle.requester.specs.declared.state.Seen.TheVariants.{Nothing, Left}
use Rattle.requester.specs.declared.state.ClientState.{ClientState}
use Rattle.requester.specs.Words.{is_idle, is_inside, members, is_member, held_of, is_relinquished}
use Rattle.requester.specs.Soundness.{IsSound}
use Rattle.requester.specs.Votes.{KeepsRequest, IsGiving, IsReleasing}
use Rattle.requester.specs.RequesterContract.{Accepts, AllInRange, ComesInRange, IsLocked, IsReached, IsStamp, Locks, RemindersInRange, SaysInRange}
use Rattle.requester.specs.Steps.{Outcome, send_requests, begin_request, tell, take, end_request, Cause}
use Rattle.requester.specs.Steps.{Asks, Takes, Leaves, GivesUp, step, remind, remind_in, remind_by, remind_member}
use Rattle.requester.proofs.Members.{AllByRecursion-map_members, AllByRecursion-flat_map_members}
use Rattle.requester.proofs.Messages.{KeepsRequest-take, SendsBack-take}
use Rattle.requester.proofs.SoundSteps.{is_asking-busy, ask-Ok, give_up-Ok, leave-Ok, Ok-same}

abbrev pub InRange : Cause → ClientState → ToVoter → Type 0
InRange cause y m = IsReached cause y m.voter × (m.voter < 64) × SaysInRange y.limit m.body

-- Any message

in_range : (x : ClientState) (m : ToClient) (o : Outcome) (n : ToVoter) → IsSound x → KeepsRequest x m o → m.voter < 64 → ComesInRange x.limit (Takes m) → IsGiving m x o n ⊎ IsReleasing m x n → InRange (Takes m) o.state n
in_range x m o n s k below came (inl gives) =
    let had = gives.vote.had in
    let member = (s.held n.voter had).member in
    let some : 1 ≤ held_of x n.voter = grind (arith, nat_tests) in
    (inl (ap (λ q. has q.items n.voter) k.quorum ∙ member), has-IsSet_below (members x) n.voter s.quorum member, subst (SaysInRange o.state.limit) (sym gives.body) some)
in_range x m o n s k below came (inr releases) =
    let locks : IsLocked (Takes m) n.voter releases.stamp releases.grant = subst (λ b. Locks m.voter b n.voter releases.stamp releases.grant) (sym releases.locked) (releases.voter, refl, refl) in (
      inr (releases.stamp, (releases.grant, locks)),
      subst (λ v. v < 64) (sym releases.voter) below,
      subst (SaysInRange o.state.limit) (sym releases.body) (subst (λ l. IsStamp l releases.stamp) (sym k.limit) (came n.voter releases.stamp releases.grant locks)),
    )

AllInRange-take : (x : ClientState) (m : ToClient) → IsSound x → m.voter < 64 → ComesInRange x.limit (Takes m) → AllInRange (Takes m) (take x m).state (take x m).out
AllInRange-take x m s below came =
    let o = take x m in
    AllByRecursion-weaker (λ n. IsGiving m x o n ⊎ IsReleasing m x n) (InRange (Takes m) o.state) (λ n. in_range x m o n s (KeepsRequest-take x m) below came) o.out (SendsBack-take x m s)

-- Calls

AllInRange-send_requests : (x : ClientState) (q : List ℕ) → IsSet q → x.clock < x.limit → AllInRange (Asks q) (begin_request x q) (send_requests x q).out
AllInRange-send_requests x q set room =
    AllByRecursion-map_members (InRange (Asks q) (begin_request x q)) (λ v. tell (begin_request x q) v (asks.Request (x.clock + 1))) q
    (λ v member. (inl member, has-IsSet_below q v set member, (omega arith, omega arith)))

AllInRange-end_request : (x : ClientState) (seen : Seen) (cause : Cause) → IsSound x → is_idle x.phase ≡ false → AllInRange cause (end_request x seen).state (end_request x seen).out
AllInRange-end_request x seen cause s busy =
    AllByRecursion-map_members (InRange cause (end_request x seen).state) (λ v. tell x v (asks.Release x.stamp)) (members x)
    (λ v member. (inl member, has-IsSet_below (members x) v s.quorum member, (s.stamped busy, s.stamp)))

pub is_inside-busy : (p : Phase) → is_inside p ≡ true → is_idle p ≡ false
is_inside-busy Idle e = sym e
is_inside-busy p e = refl

pub AllInRange-step : (x : ClientState) (cause : Cause) (o : Outcome) → IsSound x → Accepts x cause → ComesInRange x.limit cause → step x cause ≡ Ok o → AllInRange cause o.state o.out
unfolding step
AllInRange-step x (Asks q) o s accepts came e =
    let k = ask-Ok x q o e in
    subst (λ (p : Outcome). AllInRange (Asks q) p.state p.out) k.2 (AllInRange-send_requests x q accepts.0 k.1)
AllInRange-step x (Takes m) o s accepts came e = subst (λ (p : Outcome). AllInRange (Takes m) p.state p.out) (Ok-same (take x m) o e) (AllInRange-take x m s accepts.1 came)
AllInRange-step x Leaves o s accepts came e =
    let k = leave-Ok x o e in
    subst (λ (p : Outcome). AllInRange Leaves p.state p.out) k.1 (AllInRange-end_request x Left Leaves s (is_inside-busy x.phase k.0))
AllInRange-step x GivesUp o s accepts came e =
    let k = give_up-Ok x o e in
    subst (λ (p : Outcome). AllInRange GivesUp p.state p.out) k.1 (AllInRange-end_request x Nothing GivesUp s (is_asking-busy x.phase k.0))

-- Reminders

abbrev pub ReminderInRange : ClientState → ToVoter → Type 0
ReminderInRange x m = (is_member x m.voter ≡ true) × (m.voter < 64) × SaysInRange x.limit m.body

RemindersInRange-remind_by : (held given : Bool) (x : ClientState) (v : ℕ) → IsSound x → is_idle x.phase ≡ false → is_relinquished x v ≡ given → is_member x v ≡ true
    → RemindersInRange x (remind_by held given x v)
RemindersInRange-remind_by true given x v s busy e member = tt
RemindersInRange-remind_by false false x v s busy e member = ((member, has-IsSet_below (members x) v s.quorum member, (s.stamped busy, s.stamp)), tt)
RemindersInRange-remind_by false true x v s busy e member =
    let below = has-IsSet_below (members x) v s.quorum member in
    ((member, below, s.relinquished v e), ((member, below, (s.stamped busy, s.stamp)), tt))

RemindersInRange-remind_in : (p : Phase) (x : ClientState) → IsSound x → x.phase ≡ p → RemindersInRange x (remind_in p x)
RemindersInRange-remind_in Asking x s e =
    AllByRecursion-flat_map_members (ReminderInRange x) (remind_member x) (members x) (λ v member. RemindersInRange-remind_by _ _ x v s (ap is_idle e) refl member)
RemindersInRange-remind_in p x s e = tt

pub RemindersInRange-remind : (x : ClientState) → IsSound x → RemindersInRange x (remind x)
unfolding remind
RemindersInRange-remind x s = RemindersInRange-remind_in x.phase x s refl
