-- Every step keeps what is so of every client.
use Rattle.std.proofs.Common.{◌≡◌, ℕ, ◌<◌, ◌≤◌, ◌^◌, Bool, true, false, ltb, List, length, set, Some, None, refl, sym, ap, subst, ◌∙◌, inl, inr, arith, Result, Ok, Err}
use Rattle.std.specs.Prelude.{◌==◌, if◌then◌else◌}
use Rattle.std.specs.List.{list_all}
use Rattle.std.specs.Result.{is_err, result_ok}
use Rattle.std.proofs.lemmas.Bool.{and_parts}
use Rattle.std.proofs.lemmas.Option.{same_Some}
use Rattle.std.proofs.lemmas.Bool.Decides.{nat_tests}
use Rattle.numbers.specs.Sets.{has, IsSet}
use Rattle.numbers.proofs.Lists.{slice_index-replicate_zero}
use Rattle.message.specs.declared.message.ToClient.{ToClient}
use Rattle.requester.specs.declared.fault.ClientFault.TheVariants.{Busy, NotInside, NotAsking, StampsSpent}
use Rattle.requester.specs.declared.state.Phase.{Phase}
use Rattle.requester.specs.declared.state.Phase.TheVariants.{Idle, Asking, Inside}
use Rattle.requester.specs.declared.state.Seen.{Seen}
use Rattle.requester.specs.declared.state.Seen.TheVariants.{Nothing, Left}
use Rattle.requester.specs.declared.state.ClientState.{ClientState}
use Rattle.requester.specs.Leases.{anew}
use Rattle.requester.specs.Words.{is_idle, is_asking, is_inside, members, held_of, holds, holds_under, is_covered, last_of, is_relinquished, is_inquired, is_spent}
use Rattle.requester.specs.Soundness.{IsHeldWell, IsSound}
use Rattle.requester.specs.RequesterContract.{Accepts}
use Rattle.requester.specs.Votes.{KeepsRequest, VoteFate}
use Rattle.requester.specs.Steps.{Outcome, clear_votes, begin_request, send_requests, unless, ask}
use Rattle.requester.specs.Steps.{see, take, end_request, leave, give_up, Cause, Asks, Takes, Leaves, GivesUp, step, start}
use Rattle.requester.proofs.Members.{absurd-true_false, list_all-weaker}
use Rattle.requester.proofs.Messages.{KeepsRequest-take, VoteFate-take, wide-take}

-- Asking is neither idle nor inside.

pub is_asking-busy : (p : Phase) → is_asking p ≡ true → is_idle p ≡ false
is_asking-busy Idle e = sym e
is_asking-busy p e = refl

pub is_asking-outside : (p : Phase) → is_asking p ≡ true → is_inside p ≡ false
is_asking-outside Inside e = sym e
is_asking-outside p e = refl

pub holds_under-holds : (x : ClientState) (v g : ℕ) → holds_under x v g ≡ true → holds x v ≡ true
holds_under-holds x v g e = (and_parts (holds x v) (held_of x v == g) e).0

-- Any message

busy_before : (x : ClientState) (m : ToClient) (o : Outcome) → KeepsRequest x m o → is_idle o.state.phase ≡ false → is_idle x.phase ≡ false
busy_before x m o k busy = elim k.phase [ inl same ↦ ap is_idle (sym same.0) ∙ busy | inr enters ↦ enters.busy ]

pub busy_after : (x : ClientState) (m : ToClient) (o : Outcome) → KeepsRequest x m o → is_idle x.phase ≡ false → is_idle o.state.phase ≡ false
busy_after x m o k busy = elim k.phase [ inl same ↦ ap is_idle same.0 ∙ busy | inr enters ↦ ap is_idle enters.after ]

IsHeldWell-fate : (x : ClientState) (m : ToClient) (o : Outcome) (v : ℕ) → IsSound x → KeepsRequest x m o → VoteFate m x o v → holds o.state v ≡ true → IsHeldWell o.state v
IsHeldWell-fate x m o v s k (inl kept) h =
    let held = kept.held in
    let last = kept.last in
    let w = s.held v (ap (ltb 0) (sym held) ∙ h) in
    let fresh = w.fresh in
    record { busy = busy_after x m o k w.busy; member = ap (λ q. has q.items v) k.quorum ∙ w.member; fresh = omega arith }
IsHeldWell-fate x m o v s k (inr (inl brought)) h =
    let newer = brought.newer in
    let last = brought.last in
    record { busy = busy_after x m o k brought.busy; member = ap (λ q. has q.items v) k.quorum ∙ brought.member; fresh = omega arith }
IsHeldWell-fate x m o v s k (inr (inr back)) h = absurd-true_false (holds o.state v) h (ap (ltb 0) back.gone)

-- a client that is inside keeps its votes
covered_still : (x : ClientState) (m : ToClient) (o : Outcome) → IsSound x → KeepsRequest x m o → ((v : ℕ) → VoteFate m x o v) → is_inside x.phase ≡ true → is_covered o.state ≡ true
covered_still x m o s k fates inside =
    ap (λ q. list_all (holds o.state) q.items) k.quorum ∙ list_all-weaker (holds x) (holds o.state) (members x) (λ v has. elim (fates v) [
      | inl kept ↦ ap (ltb 0) kept.held ∙ has
      | inr (inl brought) ↦ absurd-true_false (holds x v) has brought.free
      | inr (inr back) ↦ absurd-true_false (is_inside x.phase) inside (is_asking-outside x.phase back.asking)
    ]) (s.inside inside)

inquired_held : (x : ClientState) (m : ToClient) (o : Outcome) (v : ℕ) → IsSound x → VoteFate m x o v → is_inquired o.state v ≡ true → holds o.state v ≡ true
inquired_held x m o v s (inl kept) is = ap (ltb 0) kept.held ∙ elim (kept.new is) [ inl was ↦ s.inquired v was | inr asks ↦ asks.held ]
inquired_held x m o v s (inr (inl brought)) is = brought.has
inquired_held x m o v s (inr (inr back)) is = absurd-true_false (is_inquired o.state v) is back.inquired

given_some : (x : ClientState) (m : ToClient) (o : Outcome) (v : ℕ) → IsSound x → VoteFate m x o v → is_relinquished o.state v ≡ true → 1 ≤ last_of o.state v
given_some x m o v s (inl kept) is = (let last = kept.last in let some = s.relinquished v (sym kept.given ∙ is) in omega arith)
given_some x m o v s (inr (inl brought)) is = absurd-true_false (is_relinquished o.state v) is brought.given
given_some x m o v s (inr (inr back)) is = (let last = back.last in let had = back.had in let some : 1 ≤ held_of x v = grind (arith, nat_tests) in omega arith)

pub IsSound-take : (x : ClientState) (m : ToClient) → IsSound x → IsSound (take x m).state
IsSound-take x m s =
    let o = take x m in
    let k = KeepsRequest-take x m in
    let fates : (v : ℕ) → VoteFate m x o v = λ v. VoteFate-take x m v s in
    let id = k.id in
    let limit = k.limit in
    let clock = k.clock in
    let stamp = k.stamp in
    let s_id = s.id in
    let s_some = s.some in
    let s_limit = s.limit in
    let s_stamp = s.stamp in
    let s_clock = s.clock in
    record {
      id = omega arith;
      some = omega arith;
      limit = omega arith;
      places = (wide-take x m s).places;
      stamp = omega arith;
      clock = omega arith;
      stamped = λ busy. let some = s.stamped (busy_before x m o k busy) in omega arith;
      quorum = subst (λ q. IsSet q.items) (sym k.quorum) s.quorum;
      asked = λ busy. subst (λ q. 1 ≤ length q.items) (sym k.quorum) (s.asked (busy_before x m o k busy));
      held = λ v h. IsHeldWell-fate x m o v s k (fates v) h;
      inside = λ inside. elim k.phase [ inl same ↦ covered_still x m o s k fates (ap is_inside (sym same.0) ∙ inside) | inr enters ↦ enters.covered ];
      inquired = λ v is. inquired_held x m o v s (fates v) is;
      relinquished = λ v is. given_some x m o v s (fates v) is;
    }

pub IsSound-see : (x : ClientState) (t : ℕ) → IsSound x → IsSound (see x t)
IsSound-see x t s =
    let p = s.places in
    let before = s.clock in
    record {
      id = s.id;
      some = s.some;
      limit = s.limit;
      places = record { held = p.held; last = p.last };
      stamp = s.stamp;
      clock = omega arith;
      stamped = s.stamped;
      quorum = s.quorum;
      asked = s.asked;
      held = λ u e. let w = s.held u e in record { busy = w.busy; member = w.member; fresh = w.fresh };
      inside = s.inside;
      inquired = s.inquired;
      relinquished = s.relinquished;
    }

-- Calls

clear_votes-holds_nothing : {A : Type 0} (x : ClientState) (v : ℕ) → holds (clear_votes x) v ≡ true → A
clear_votes-holds_nothing x v h = absurd-true_false (holds (clear_votes x) v) h (ap (ltb 0) (slice_index-replicate_zero 64 v))

-- a client that is not inside, and holds and marks no vote
pub IsSound-clear_votes : (x : ClientState) (p : Phase) → is_inside p ≡ false → x.id < 64 → 1 ≤ x.limit → x.limit ≤ 2 ^ 62 → length x.last ≡ 64 → x.stamp ≤ x.limit → x.stamp ≤ x.clock
    → IsSet (members x) → (is_idle p ≡ false → (1 ≤ x.stamp) × (1 ≤ length (members x))) → IsSound (record (clear_votes x) { phase = p })
IsSound-clear_votes x p outside id some limit last stamp clock set busy = record {
  id = id;
  some = some;
  limit = limit;
  places = record { held = refl; last = last };
  stamp = stamp;
  clock = clock;
  stamped = λ runs. (busy runs).0;
  quorum = set;
  asked = λ runs. (busy runs).1;
  held = λ v h. clear_votes-holds_nothing x v h;
  inside = λ inside. absurd-true_false (is_inside p) inside outside;
  inquired = λ v h. absurd-true_false false h refl;
  relinquished = λ v h. absurd-true_false false h refl;
}

IsSound-send_requests : (x : ClientState) (q : List ℕ) → IsSound x → IsSet q → 1 ≤ length q → x.clock < x.limit → IsSound (begin_request x q)
IsSound-send_requests x q s set some room = IsSound-clear_votes (begin_request x q) Asking refl s.id s.some s.limit s.places.last (omega arith) (omega arith) set (λ _. (omega arith, some))

IsSound-end_request : (x : ClientState) (seen : Seen) → IsSound x → IsSound (end_request x seen).state
IsSound-end_request x seen s = IsSound-clear_votes x Idle refl s.id s.some s.limit s.places.last s.stamp s.clock s.quorum (λ busy. absurd-true_false true refl busy)

-- An answered call

pub Ok-same : {A E : Type 0} (a b : A) → ◌≡◌ {A = Result A E} (Ok a) (Ok b) → a ≡ b
Ok-same a b e = same_Some a b (ap result_ok e)

Err-not_Ok : {A E B : Type 0} (f : E) (b : B) → ◌≡◌ {A = Result B E} (Err f) (Ok b) → A
Err-not_Ok f b e = absurd-true_false true refl (ap is_err e)

unless-Ok : {A E : Type 0} (b : Bool) (f : E) (a o : A) → unless (if b then None else Some f) a ≡ Ok o → (b ≡ true) × (a ≡ o)
unless-Ok true f a o e = (refl, Ok-same a o e)
unless-Ok false f a o e = Err-not_Ok f o e

may_ask : (idle spent : Bool) (a o : Outcome) → unless (if idle then (if spent then Some StampsSpent else None) else Some Busy) a ≡ Ok o → (idle ≡ true) × (spent ≡ false) × (a ≡ o)
may_ask true false a o e = (refl, refl, Ok-same a o e)
may_ask true true a o e = Err-not_Ok StampsSpent o e
may_ask false spent a o e = Err-not_Ok Busy o e

-- an ask that is not refused
pub ask-Ok : (x : ClientState) (q : List ℕ) (o : Outcome) → ask x q ≡ Ok o → (is_idle x.phase ≡ true) × (x.clock < x.limit) × (send_requests x q ≡ o)
unfolding ask
ask-Ok x q o e = let k = may_ask (is_idle x.phase) (is_spent x) (send_requests x q) o e in let spent = k.1 in (k.0, grind (arith, nat_tests), k.2)

pub leave-Ok : (x : ClientState) (o : Outcome) → leave x ≡ Ok o → (is_inside x.phase ≡ true) × (end_request x Left ≡ o)
unfolding leave
leave-Ok x o e = unless-Ok (is_inside x.phase) NotInside (end_request x Left) o e

pub give_up-Ok : (x : ClientState) (o : Outcome) → give_up x ≡ Ok o → (is_asking x.phase ≡ true) × (end_request x Nothing ≡ o)
unfolding give_up
give_up-Ok x o e = unless-Ok (is_asking x.phase) NotAsking (end_request x Nothing) o e

pub IsSound-ask : (x : ClientState) (q : List ℕ) (o : Outcome) → IsSound x → IsSet q → 1 ≤ length q → ask x q ≡ Ok o → IsSound o.state
IsSound-ask x q o s set some e =
    let k = ask-Ok x q o e in
    subst (λ (p : Outcome). IsSound p.state) k.2 (IsSound-send_requests x q s set some k.1)

pub IsSound-leave : (x : ClientState) (o : Outcome) → IsSound x → leave x ≡ Ok o → IsSound o.state
IsSound-leave x o s e = subst (λ (p : Outcome). IsSound p.state) (leave-Ok x o e).1 (IsSound-end_request x Left s)

pub IsSound-give_up : (x : ClientState) (o : Outcome) → IsSound x → give_up x ≡ Ok o → IsSound o.state
IsSound-give_up x o s e = subst (λ (p : Outcome). IsSound p.state) (give_up-Ok x o e).1 (IsSound-end_request x Nothing s)

pub IsSound-step : (x : ClientState) (cause : Cause) (o : Outcome) → IsSound x → Accepts x cause → step x cause ≡ Ok o → IsSound o.state
unfolding step
IsSound-step x (Asks q) o s accepts e = IsSound-ask x q o s accepts.0 accepts.1 e
IsSound-step x (Takes m) o s accepts e = subst (λ (p : Outcome). IsSound p.state) (Ok-same (take x m) o e) (IsSound-take x m s)
IsSound-step x Leaves o s accepts e = IsSound-leave x o s e
IsSound-step x GivesUp o s accepts e = IsSound-give_up x o s e

pub IsSound-start : (id limit : ℕ) → id < 64 → 1 ≤ limit → limit ≤ 2 ^ 62 → IsSound (start id limit)
IsSound-start id limit small some most = IsSound-clear_votes (start id limit) Idle refl small some most refl (omega arith) (omega arith) tt (λ busy. absurd-true_false true refl busy)

pub IsSound-anew : (id limit clock : ℕ) → id < 64 → 1 ≤ limit → limit ≤ 2 ^ 62 → clock ≤ limit → IsSound (anew id limit clock)
IsSound-anew id limit clock small some most within =
    IsSound-clear_votes (anew id limit clock) Idle refl small some most refl within (omega arith) tt (λ busy. absurd-true_false true refl busy)
