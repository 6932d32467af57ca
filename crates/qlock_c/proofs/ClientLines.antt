-- Each message of a client has a line, so that its voter takes it.
use Rattle.std.proofs.Common.{◌≡◌, ℕ, ◌+◌, ◌-◌, ◌<◌, ◌≤◌, ◌^◌, Bool, true, false, List, ◌++◌, length, Ok, refl, sym, ap, subst, ◌∙◌, ◌⊎◌, inl, inr, arith, get_or}
use Rattle.std.specs.Prelude.{◌==◌, map}
use Rattle.std.proofs.lemmas.Bool.Decides.{nat_tests}
use Rattle.std.proofs.lemmas.List.{get_or_append_left, get_or-append_right, length-append}
use Rattle.std.proofs.lemmas.Option.{none-some}
use Rattle.std.specs.Result.{result_ok}
use Rattle.numbers.specs.Sets.{IsSet, has}
use Rattle.numbers.proofs.Lists.{AllByRecursion-weaker}
use Rattle.numbers.proofs.SetLemmas.{has-IsSet_below}
use Rattle.message.specs.Lines.{AreCounts, HasLine, IsCount, voter_number}
use Rattle.message.specs.declared.message.Message.TheVariants as kinds
use Rattle.message.specs.declared.message.ToClient.{ToClient}
use Rattle.message.specs.declared.message.ToVoter.{ToVoter}
use Rattle.message.specs.declared.message.VoterBody.{VoterBody}
use Rattle.message.specs.declared.message.VoterBody.TheVariants as asks
use Rattle.requester.specs.declared.state.ClientState.{ClientState}
use Rattle.requester.specs.declared.state.Phase.{Phase}
use Rattle.requester.specs.declared.state.Phase.TheVariants.{Idle, Asking, Inside}
use Rattle.requester.specs.declared.state.Seen.{Seen}
use Rattle.requester.specs.declared.state.Seen.TheVariants.{Nothing, Left}
use Rattle.requester.specs.Words.{held_of, is_idle, is_relinquished, last_of, members}
use Rattle.requester.specs.Soundness.{IsSound}
use Rattle.requester.specs.Votes.{IsGiving, IsReleasing}
use Rattle.requester.specs.Saved.{head_words, words_of}
use Rattle.requester.specs.Leases.{disclaim, disclaim_in, disclaim_unless, renew, renew_in}
use Rattle.requester.specs.Steps.{Asks, Cause, GivesUp, Leaves, Outcome, Takes, begin_request, end_request, remind, remind_by, remind_in, remind_member, send_requests, step, take, tell}
use Rattle.requester.proofs.Members.{AllByRecursion-flat_map_members, AllByRecursion-map_members}
use Rattle.requester.proofs.Messages.{SendsBack-take}
use Rattle.requester.proofs.RangeLemmas.{is_inside-busy}
use Rattle.requester.proofs.SoundSteps.{Ok-same, ask-Ok, give_up-Ok, is_asking-busy, leave-Ok}
use Rattle.words.specs.WordBytes.{FitIn64Bits}
use Rattle.lock_blocks.specs.Bytes.{IsClient}
use Rattle.lock_blocks.specs.Lines.{VotersCanRead}
use Rattle.lock_blocks.specs.Sent.{Comes, OfEachClient}

-- The numbers of a client fit

place_fits : (x : ClientState) (v n : ℕ) → FitIn64Bits (words_of x) → v < length (x.held ++ x.last) → get_or (x.held ++ x.last) v 0 ≡ n → n < 2 ^ 64
unfolding words_of
place_fits x v n fit within is =
    let long = length-append (head_words x) (x.held ++ x.last) in
    let back : 10 + v - 10 ≡ v = omega arith in
    let at : get_or (words_of x) (10 + v) 0 ≡ n = get_or-append_right (head_words x) (x.held ++ x.last) 10 (10 + v) 0 refl (omega arith) ∙ ap (λ k. get_or (x.held ++ x.last) k 0) back ∙ is in
    subst (λ k. k < 2 ^ 64) at (fit (10 + v) 0 (omega (arith, long)))

held_fits : (x : ClientState) (v : ℕ) → IsSound x → FitIn64Bits (words_of x) → v < 64 → held_of x v < 2 ^ 64
held_fits x v s fit few =
    let places = s.places.held in
    let long = length-append x.held x.last in
    place_fits x v (held_of x v) fit (omega (arith, places, long)) (get_or_append_left x.held x.last 0 v (omega (arith, places)))

last_fits : (x : ClientState) (v : ℕ) → IsSound x → FitIn64Bits (words_of x) → v < 64 → last_of x v < 2 ^ 64
last_fits x v s fit few =
    let places = s.places.held in
    let lasts = s.places.last in
    let long = length-append x.held x.last in
    let back : 64 + v - 64 ≡ v = omega arith in
    place_fits x (64 + v) (last_of x v) fit (omega (arith, places, lasts, long))
    (get_or-append_right x.held x.last 64 (64 + v) 0 places (omega arith) ∙ ap (λ k. get_or x.last k 0) back)

-- each grant of a held vote fits
abbrev HeldFit : ClientState → Type 0
HeldFit x = (v : ℕ) → v < 64 → held_of x v < 2 ^ 64

-- One message

abbrev CanRead : ToVoter → Type 0
CanRead m = HasLine (kinds.ToVoter m)

id_most : (x : ClientState) → IsSound x → x.id ≤ 63
id_most x s = let few = s.id in omega arith

member_most : (q : List ℕ) (v : ℕ) → IsSet q → has q v ≡ true → v ≤ 63
member_most q v set member = let few = has-IsSet_below q v set member in omega arith

-- the stamp of a request that was made
stamp_counts : (x : ClientState) → IsSound x → 1 ≤ x.stamp → IsCount x.stamp
stamp_counts x s some = let most = s.stamp in let limit = s.limit in (some, omega arith)

-- a message that gives a vote back, or releases one
back_read : (x : ClientState) (m : ToClient) (n : ToVoter) → IsSound x → HeldFit x → HasLine (kinds.ToClient m) → IsGiving m x (take x m) n ⊎ IsReleasing m x n → CanRead n
back_read x m n s fit line (inl gives) =
    let had = gives.vote.had in
    let few = has-IsSet_below (members x) n.voter s.quorum (s.held n.voter had).member in
    let some : 1 ≤ held_of x n.voter = grind (arith, nat_tests) in (
      subst (λ k. k ≤ 63) (sym gives.client) (id_most x s),
      omega (arith, few),
      subst (λ (b : VoterBody). IsCount (voter_number b)) (sym gives.body) (some, fit n.voter few),
    )
back_read x m n s fit line (inr releases) = (
  subst (λ k. k ≤ 63) (sym releases.client) (id_most x s),
  subst (λ v. v ≤ 63) (sym releases.voter) line.0,
  subst (λ (b : VoterBody). IsCount (voter_number b)) (sym releases.body) (subst AreCounts releases.locked line.3).0,
)

take_read : (x : ClientState) (m : ToClient) → IsSound x → HeldFit x → HasLine (kinds.ToClient m) → VotersCanRead (take x m).out
take_read x m s fit line =
    AllByRecursion-weaker (λ n. IsGiving m x (take x m) n ⊎ IsReleasing m x n) CanRead (λ n. back_read x m n s fit line) (take x m).out (SendsBack-take x m s)

-- Calls

requests_read : (x : ClientState) (q : List ℕ) → IsSound x → IsSet q → x.clock < x.limit → VotersCanRead (send_requests x q).out
requests_read x q s set room =
    let limit = s.limit in
    AllByRecursion-map_members CanRead (λ v. tell (begin_request x q) v (asks.Request (x.clock + 1))) q
    (λ v member. (id_most x s, member_most q v set member, (omega arith, omega arith)))

-- a stamp that goes to each voter of a set
stamps_read : (x : ClientState) (q : List ℕ) (body : VoterBody) → IsSound x → IsSet q → IsCount (voter_number body) → VotersCanRead (map (λ v. tell x v body) q)
stamps_read x q body s set counts =
    AllByRecursion-map_members CanRead (λ v. tell x v body) q (λ v member. (id_most x s, member_most q v set member, counts))

ends_read : (x : ClientState) (seen : Seen) → IsSound x → is_idle x.phase ≡ false → VotersCanRead (end_request x seen).out
ends_read x seen s busy = stamps_read x (members x) (asks.Release x.stamp) s s.quorum (stamp_counts x s (s.stamped busy))

-- the step of a client that the bytes are
step_can_be_read : (bytes : List ℕ) (x : ClientState) (cause : Cause) (o : Outcome) → IsClient bytes x → Comes cause → step x cause ≡ Ok o → VotersCanRead o.out
unfolding step
step_can_be_read bytes x (Asks q) o is comes e =
    let k = ask-Ok x q o e in
    subst (λ (p : Outcome). VotersCanRead p.out) k.2 (requests_read x q is.kept.sound comes k.1)
step_can_be_read bytes x (Takes m) o is comes e =
    subst (λ (p : Outcome). VotersCanRead p.out) (Ok-same (take x m) o e)
    (take_read x m is.kept.sound (λ v few. held_fits x v is.kept.sound is.fit few) comes)
step_can_be_read bytes x Leaves o is comes e =
    let k = leave-Ok x o e in
    subst (λ (p : Outcome). VotersCanRead p.out) k.1 (ends_read x Left is.kept.sound (is_inside-busy x.phase k.0))
step_can_be_read bytes x GivesUp o is comes e =
    let k = give_up-Ok x o e in
    subst (λ (p : Outcome). VotersCanRead p.out) k.1 (ends_read x Nothing is.kept.sound (is_asking-busy x.phase k.0))

-- Beside its steps

remind_by_read : (held given : Bool) (x : ClientState) (v : ℕ) → IsSound x → FitIn64Bits (words_of x) → is_idle x.phase ≡ false → is_relinquished x v ≡ given → v < 64 → VotersCanRead (remind_by held given x v)
remind_by_read true given x v s fit busy e few = tt
remind_by_read false false x v s fit busy e few = ((id_most x s, omega arith, stamp_counts x s (s.stamped busy)), tt)
remind_by_read false true x v s fit busy e few =
    ((id_most x s, omega arith, (s.relinquished v e, last_fits x v s fit few)), ((id_most x s, omega arith, stamp_counts x s (s.stamped busy)), tt))

remind_in_read : (p : Phase) (x : ClientState) → IsSound x → FitIn64Bits (words_of x) → x.phase ≡ p → VotersCanRead (remind_in p x)
remind_in_read Asking x s fit e =
    AllByRecursion-flat_map_members CanRead (remind_member x) (members x)
    (λ v member. remind_by_read _ _ x v s fit (ap is_idle e) refl (has-IsSet_below (members x) v s.quorum member))
remind_in_read p x s fit e = tt

remind_can_be_read : (bytes : List ℕ) (x : ClientState) → IsClient bytes x → VotersCanRead (remind x)
unfolding remind
remind_can_be_read bytes x is = remind_in_read x.phase x is.kept.sound is.fit refl

disclaim_unless_read : (none : Bool) (x : ClientState) (voters : List ℕ) → IsSound x → IsSet voters → (x.stamp == 0) ≡ none → VotersCanRead (disclaim_unless none x voters)
disclaim_unless_read true x voters s set e = tt
disclaim_unless_read false x voters s set e =
    let some : 1 ≤ x.stamp = grind (arith, nat_tests) in
    stamps_read x voters (asks.Release x.stamp) s set (stamp_counts x s some)

disclaim_in_read : (p : Phase) (x : ClientState) (voters : List ℕ) (sent : List ToVoter) → IsSound x → IsSet voters → disclaim_in p x voters ≡ Ok sent → VotersCanRead sent
disclaim_in_read Idle x voters sent s set e = subst (λ (ms : List ToVoter). VotersCanRead ms) (Ok-same _ sent e) (disclaim_unless_read _ x voters s set refl)
disclaim_in_read Asking x voters sent s set e = absurd (none-some sent (ap result_ok e))
disclaim_in_read Inside x voters sent s set e = absurd (none-some sent (ap result_ok e))

disclaim_can_be_read : (bytes : List ℕ) (x : ClientState) (voters : List ℕ) (sent : List ToVoter) → IsClient bytes x → IsSet voters → disclaim x voters ≡ Ok sent → VotersCanRead sent
disclaim_can_be_read bytes x voters sent is set e = disclaim_in_read x.phase x voters sent is.kept.sound set e

renew_in_read : (p : Phase) (x : ClientState) → IsSound x → x.phase ≡ p → VotersCanRead (renew_in p x)
renew_in_read Inside x s e = stamps_read x (members x) (asks.Request x.stamp) s s.quorum (stamp_counts x s (s.stamped (ap is_idle e)))
renew_in_read p x s e = tt

renew_can_be_read : (bytes : List ℕ) (x : ClientState) → IsClient bytes x → VotersCanRead (renew x)
renew_can_be_read bytes x is = renew_in_read x.phase x is.kept.sound refl

pub clients_can_be_read : OfEachClient VotersCanRead
clients_can_be_read = record {
  steps = step_can_be_read;
  reminders = remind_can_be_read;
  disclaims = disclaim_can_be_read;
  renewals = renew_can_be_read;
}
