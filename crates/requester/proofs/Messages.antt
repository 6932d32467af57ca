-- What a message does to a client: how its request goes on, what becomes of each vote, and what is
-- sent.
use Rattle.std.proofs.Common.{◌≡◌, ℕ, ◌<◌, ◌≤◌, Bool, true, false, ◌&&◌, ◌||◌, not, ltb, nat_lt, [], ◌∷◌, filter, refl, sym, ap, subst, ◌∙◌, ◌⊎◌, inl, inr, arith}
use Rattle.std.specs.Prelude.{◌==◌}
use Rattle.std.proofs.lemmas.Bool.{and_from, and_parts, cases_eq, cases_lt, eq-eqb, false≢true, false_from_ne_true, not-true}
use Rattle.std.proofs.lemmas.Bool.Decides.{nat_tests}
use Rattle.std.proofs.lemmas.List.{get_or-set_other, get_or-set_same, get_or_past, length-set}
use Rattle.numbers.proofs.Lists.{AllByRecursion-weaker}
use Rattle.numbers.proofs.SetLemmas.{has-IsSet_below}
use Rattle.numbers.specs.Sets.{has}
use Rattle.message.specs.declared.message.ToClient.{ToClient}
use Rattle.message.specs.declared.message.ToVoter.{ToVoter}
use Rattle.message.specs.declared.message.ClientBody.{ClientBody}
use Rattle.message.specs.declared.message.ClientBody.TheVariants as to_client
use Rattle.message.specs.declared.message.VoterBody.TheVariants as asks
use Rattle.requester.specs.declared.state.ClientState.{ClientState}
use Rattle.requester.specs.declared.state.Phase.{Phase}
use Rattle.requester.specs.declared.state.Phase.TheVariants.{Inside}
use Rattle.requester.specs.declared.state.Seen.{Seen}
use Rattle.requester.specs.declared.state.Seen.TheVariants.{Entered, Nothing}
use Rattle.requester.specs.Words.{held_of, holds, holds_under, is_asking, is_covered, is_current, is_failed, is_hindered, is_idle, is_inquired, is_inside, is_member, is_relinquished, last_of, members}
use Rattle.requester.specs.Soundness.{IsSound}
use Rattle.requester.specs.Votes.{AsksFor, KeepsRequest, IsGiving, IsReleasing, SendsBack, VoteFate}
use Rattle.requester.specs.Steps.{Outcome, enter_if, fail, hold, inquire, is_fresh, see, take, take_body, take_fail, take_fail_by, take_inquire, take_inquire_by, take_locked, take_locked_by, would_hold, would_hold_body}
use Rattle.requester.proofs.Giving.{GivesOne, IsWide, MovesVotes, filter-keeps, filter-passes, gives-relinquish, gives-relinquish_each, moves-relinquish, moves-relinquish_each}
use Rattle.requester.proofs.Members.{absurd-true_false, get_or-some_below, has-with_voter, has-without_voter, has-without_voter-other, has_with-before, has_with-self, has_without-self, list_all-member, list_any-weaker, with_below, without_below}

-- ---- its request goes on

moves_on : (x : ClientState) (m : ToClient) (o : Outcome) → MovesVotes (see x m.seen) o → KeepsRequest x m o
moves_on x m o k = record {
  id = ap (λ (s : ClientState). s.id) k.rest;
  limit = ap (λ (s : ClientState). s.limit) k.rest;
  clock = ap (λ (s : ClientState). s.clock) k.rest;
  stamp = ap (λ (s : ClientState). s.stamp) k.rest;
  quorum = ap (λ (s : ClientState). s.quorum) k.rest;
  phase = inl (ap (λ (s : ClientState). s.phase) k.rest, k.seen);
}

pub moves-fail_by : (b : Bool) (x : ClientState) (v : ℕ) → MovesVotes x (take_fail_by b x v)
moves-fail_by false x v = record { rest = refl; seen = refl }
moves-fail_by true x v = (let k = moves-relinquish_each (fail x v) (filter (is_inquired (fail x v)) (members x)) in record { rest = k.rest; seen = k.seen })

pub moves-inquire_by : (b hindered : Bool) (x : ClientState) (v : ℕ) → MovesVotes x (take_inquire_by b hindered x v)
moves-inquire_by false hindered x v = record { rest = refl; seen = refl }
moves-inquire_by true false x v = record { rest = refl; seen = refl }
moves-inquire_by true true x v = moves-relinquish x v

busy_now : (x : ClientState) (stamp : ℕ) → is_current x stamp ≡ true → (is_idle x.phase ≡ false) × (stamp ≡ x.stamp)
busy_now x stamp e =
    let p = and_parts (not (is_idle x.phase)) (stamp == x.stamp) e in
    (not-true (is_idle x.phase) p.0, grind (arith, nat_tests))

goes-enter : (b : Bool) (x : ClientState) (m : ToClient) (grant : ℕ) → would_hold x m ≡ true → is_idle x.phase ≡ false → is_covered (hold (see x m.seen) m.voter grant) ≡ b
    → KeepsRequest x m (enter_if b (hold (see x m.seen) m.voter grant))
goes-enter false x m grant counts busy e = record { id = refl; limit = refl; clock = refl; stamp = refl; quorum = refl; phase = inl (refl, refl) }
goes-enter true x m grant counts busy e = record {
  id = refl;
  limit = refl;
  clock = refl;
  stamp = refl;
  quorum = refl;
  phase = inr (record { busy = busy; counts = counts; after = refl; covered = e; seen = refl });
}

would : (x : ClientState) (m : ToClient) (stamp grant : ℕ) → m.body ≡ to_client.Locked stamp grant → is_current x stamp ≡ true → is_fresh x m.voter grant ≡ true → would_hold x m ≡ true
unfolding would_hold
would x m stamp grant is current fresh = ap (would_hold_body x m.voter) is ∙ and_from (is_current x stamp) (is_fresh x m.voter grant) current fresh

goes-locked_by : (current fresh : Bool) (x : ClientState) (m : ToClient) (stamp grant : ℕ) → m.body ≡ to_client.Locked stamp grant → is_current x stamp ≡ current → is_fresh x m.voter grant ≡ fresh
    → KeepsRequest x m (take_locked_by current fresh (see x m.seen) m.voter stamp grant)
goes-locked_by true true x m stamp grant is current fresh = goes-enter _ x m grant (would x m stamp grant is current fresh) (busy_now x stamp current).0 refl
goes-locked_by true false x m stamp grant is current fresh = record { id = refl; limit = refl; clock = refl; stamp = refl; quorum = refl; phase = inl (refl, refl) }
goes-locked_by false b x m stamp grant is current fresh = record { id = refl; limit = refl; clock = refl; stamp = refl; quorum = refl; phase = inl (refl, refl) }

goes-body : (x : ClientState) (m : ToClient) (b : ClientBody) → m.body ≡ b → KeepsRequest x m (take_body (see x m.seen) m.voter b)
unfolding take_locked take_fail take_inquire
goes-body x m (to_client.Locked stamp grant) is = goes-locked_by _ _ x m stamp grant is refl refl
goes-body x m (to_client.Fail stamp) is = moves_on x m _ (moves-fail_by _ (see x m.seen) m.voter)
goes-body x m (to_client.Inquire grant) is = moves_on x m _ (moves-inquire_by _ _ (see x m.seen) m.voter)

pub KeepsRequest-take : (x : ClientState) (m : ToClient) → KeepsRequest x m (take x m)
unfolding take
KeepsRequest-take x m = goes-body x m m.body refl

-- ---- a LOCKED that counts

pub record FreshVote (x : ClientState) (v g : ℕ) : Type 0 where
  pub member : is_member x v ≡ true
  pub free : holds x v ≡ false
  pub newer : last_of x v < g
  pub place : v < 64

pub FreshVote-is_fresh : (x : ClientState) (v g : ℕ) → IsSound x → is_fresh x v g ≡ true → FreshVote x v g
FreshVote-is_fresh x v g s e =
    let p = and_parts (is_member x v && not (holds x v)) (nat_lt (last_of x v) g) e in
    let q = and_parts (is_member x v) (not (holds x v)) p.0 in
    record {
      member = q.0;
      free = not-true (holds x v) q.1;
      newer = grind (arith, nat_tests);
      place = has-IsSet_below (members x) v s.quorum q.0;
    }

would_hold-FreshVote_by : (x : ClientState) (v : ℕ) (b : ClientBody) → IsSound x → would_hold_body x v b ≡ true → (g : ℕ) × FreshVote x v g
would_hold-FreshVote_by x v (to_client.Locked stamp grant) s e = (grant, FreshVote-is_fresh x v grant s (and_parts (is_current x stamp) (is_fresh x v grant) e).1)
would_hold-FreshVote_by x v b s e = absurd (false≢true e)

-- who does not hold a member's vote is not inside
pub outside_then : (x : ClientState) (m : ToClient) → IsSound x → would_hold x m ≡ true → is_inside x.phase ≡ false
unfolding would_hold
outside_then x m s e =
    let c = (would_hold-FreshVote_by x m.voter m.body s e).1 in
    false_from_ne_true (is_inside x.phase) (λ inside. absurd-true_false (holds x m.voter) (list_all-member (holds x) m.voter (members x) (s.inside inside) c.member) c.free)

-- ---- each vote

pub wide : (x : ClientState) → IsSound x → IsWide x
wide x s = record {
  places = s.places;
  inquired = λ v is. (let place = get_or-some_below x.held v (s.inquired v is) in let held = s.places.held in omega arith);
  given = λ v is. (let some = s.relinquished v is in let place = get_or-some_below x.last v (grind (arith, nat_tests)) in let last = s.places.last in omega arith);
}

-- what a message would ask for, if it is an INQUIRE
abbrev inquired_by : ClientBody → ℕ → Bool
inquired_by (to_client.Locked stamp grant) n = false
inquired_by (to_client.Fail stamp) n = false
inquired_by (to_client.Inquire grant) n = grant == n

asks_then : (m : ToClient) (x : ClientState) (v : ℕ) (b : ClientBody) → m.body ≡ b → AsksFor m x v → inquired_by b (held_of x v) ≡ true
asks_then m x v b is a = ap (λ c. inquired_by c (held_of x v)) (sym is ∙ a.body) ∙ eq-eqb (held_of x v) (held_of x v) refl

-- a vote is as before, and the message does not ask for it
still : (m : ToClient) (x : ClientState) (o : Outcome) (v : ℕ) → held_of o.state v ≡ held_of x v → last_of o.state v ≡ last_of x v → is_relinquished o.state v ≡ is_relinquished x v
    → is_inquired o.state v ≡ is_inquired x v → (is_asking x.phase ≡ true → AsksFor m x v → ⊥) → (is_hindered o.state ≡ true → is_inquired x v ≡ true → is_hindered x ≡ true) → VoteFate m x o v
still m x o v held last given inquired never hindered = inl (record {
  held = held;
  last = last;
  given = given;
  marked = λ is. inquired ∙ is;
  new = λ is. inl (sym inquired ∙ is);
  asked = λ asking asks. absurd (never asking asks);
  clear = λ now is. (let was = sym inquired ∙ is in (hindered now was, was));
})

-- LOCKED

hold_hindered : (x : ClientState) (v g : ℕ) → is_hindered (hold x v g) ≡ true → is_hindered x ≡ true
hold_hindered x v g now =
    let z = hold x v g in
    list_any-weaker (λ u. is_failed z u || is_relinquished z u) (λ u. is_failed x u || is_relinquished x u) (members x) (λ u is. weaker u is) now
  where
    weaker : (u : ℕ) → (is_failed (hold x v g) u || is_relinquished (hold x v g) u) ≡ true → (is_failed x u || is_relinquished x u) ≡ true
    weaker u is = elim (is_failed (hold x v g) u) as (λ b. is_failed (hold x v g) u ≡ b → (b || is_relinquished (hold x v g) u) ≡ true → (is_failed x u || is_relinquished x u) ≡ true) [
      | true ↦ λ f _. (let was = (has-without_voter x.failed v u f).1 in grind (arith, nat_tests))
      | false ↦ λ _ r. (let was = (has-without_voter x.relinquished v u r).1 in grind (arith, nat_tests))
    ] refl is

fate-hold : (p : Phase) (seen : Seen) (x : ClientState) (m : ToClient) (stamp grant u : ℕ) → m.body ≡ to_client.Locked stamp grant → is_current x stamp ≡ true → is_fresh x m.voter grant ≡ true → IsSound x → u < 64
    → is_inside p ≡ is_covered (hold x m.voter grant) → VoteFate m x (record { out = []; seen = seen; state = record (hold (see x m.seen) m.voter grant) { phase = p } }) u
fate-hold p seen x m stamp grant u is current fresh s below inside = elim (cases_eq u m.voter) [
  | inl same ↦ subst (VoteFate m x o) (sym same) brought
  | inr other ↦ still m x o u (get_or-set_other x.held m.voter u grant 0 other) refl (has-without_voter-other x.relinquished m.voter u below other) (has-without_voter-other x.inquired m.voter u below other)
      (λ _ a. false≢true (asks_then m x u (to_client.Locked stamp grant) is a)) (λ now _. hold_hindered x m.voter grant now)
]
  where
    o : Outcome
    o = record { out = []; seen = seen; state = record (hold (see x m.seen) m.voter grant) { phase = p } }

    brought : VoteFate m x o m.voter
    brought =
        let c = FreshVote-is_fresh x m.voter grant s fresh in
        let wide = s.places.held in
        let place = c.place in
        let newer = c.newer in
        let now = busy_now x stamp current in
        let held : held_of o.state m.voter ≡ grant = get_or-set_same x.held m.voter grant 0 (omega arith) in
        inr (inl (record {
          counts = would x m stamp grant is current fresh;
          voter = refl;
          body = is ∙ ap (λ n. to_client.Locked n grant) now.1 ∙ ap (λ n. to_client.Locked x.stamp n) (sym held);
          busy = now.0;
          member = c.member;
          free = c.free;
          has = grind (arith, nat_tests);
          newer = omega arith;
          last = refl;
          given = has_without-self x.relinquished m.voter place;
          inquired = has_without-self x.inquired m.voter place;
          inside = inside;
        }))

fate-enter : (b : Bool) (x : ClientState) (m : ToClient) (stamp grant u : ℕ) → m.body ≡ to_client.Locked stamp grant → is_current x stamp ≡ true → is_fresh x m.voter grant ≡ true → IsSound x → u < 64
    → is_covered (hold x m.voter grant) ≡ b → VoteFate m x (enter_if b (hold (see x m.seen) m.voter grant)) u
fate-enter false x m stamp grant u is current fresh s below e =
    fate-hold x.phase Nothing x m stamp grant u is current fresh s below (outside_then x m s (would x m stamp grant is current fresh) ∙ sym e)
fate-enter true x m stamp grant u is current fresh s below e = fate-hold Inside Entered x m stamp grant u is current fresh s below (sym e)

fate-locked_by : (current fresh : Bool) (x : ClientState) (m : ToClient) (stamp grant u : ℕ) → m.body ≡ to_client.Locked stamp grant → is_current x stamp ≡ current → is_fresh x m.voter grant ≡ fresh → IsSound x → u < 64
    → VoteFate m x (take_locked_by current fresh (see x m.seen) m.voter stamp grant) u
fate-locked_by true true x m stamp grant u is current fresh s below = fate-enter _ x m stamp grant u is current fresh s below refl
fate-locked_by true false x m stamp grant u is current fresh s below =
    still m x _ u refl refl refl refl (λ _ a. false≢true (asks_then m x u (to_client.Locked stamp grant) is a)) (λ now _. now)
fate-locked_by false b x m stamp grant u is current fresh s below =
    still m x _ u refl refl refl refl (λ _ a. false≢true (asks_then m x u (to_client.Locked stamp grant) is a)) (λ now _. now)

-- FAIL

fate-fail_by : (b : Bool) (x : ClientState) (m : ToClient) (stamp u : ℕ) → m.body ≡ to_client.Fail stamp → (b ≡ true → is_asking x.phase ≡ true) → IsSound x → u < 64
    → VoteFate m x (take_fail_by b (see x m.seen) m.voter) u
fate-fail_by false x m stamp u is asking s below = still m x _ u refl refl refl refl (λ _ a. false≢true (asks_then m x u (to_client.Fail stamp) is a)) (λ now _. now)
fate-fail_by true x m stamp u is asking s below =
    let y = fail (see x m.seen) m.voter in
    let w = wide x s in
    let k = gives-relinquish_each y (filter (is_inquired y) (members y)) (record { places = record { held = s.places.held; last = s.places.last }; inquired = w.inquired; given = w.given }) in
    elim (k.votes u below) [
      | inl same ↦
          let a = same.0 in
          still m x (take_fail_by true (see x m.seen) m.voter) u a.held a.last a.given a.inquired (λ _ asks. false≢true (asks_then m x u (to_client.Fail stamp) is asks))
          (λ _ was.
          let held = s.inquired u was in
          absurd-true_false (holds x u) held (same.1 (filter-keeps (is_inquired y) (members y) u (s.held u held).member was)))
      | inr given ↦
          let g = given.0 in
          inr (inr (record {
            asking = asking refl;
            had = g.had;
            gone = g.gone;
            last = g.last;
            given = g.given;
            inquired = g.inquired;
            sent = given.1;
            why = inl (filter-passes (is_inquired y) (members y) u given.2);
          }))
    ]

-- INQUIRE

one_voter : (v u : ℕ) → v ≡ u → has (v ∷ []) u ≡ true
one_voter v u same = grind (arith, nat_tests)

voter_one : (v u : ℕ) → has (v ∷ []) u ≡ true → v ≡ u
voter_one v u there = grind (arith, nat_tests)

asks_for : (m : ToClient) (x : ClientState) (grant : ℕ) → m.body ≡ to_client.Inquire grant → (is_asking x.phase && holds_under x m.voter grant) ≡ true → (is_asking x.phase ≡ true) × AsksFor m x m.voter
asks_for m x grant is counts =
    let p = and_parts (is_asking x.phase) (holds_under x m.voter grant) counts in
    let q = and_parts (holds x m.voter) (held_of x m.voter == grant) p.1 in
    let same : grant ≡ held_of x m.voter = grind (arith, nat_tests) in
    (p.0, record { voter = refl; body = is ∙ ap (λ n. to_client.Inquire n) same; held = q.0 })

counts_then : (m : ToClient) (x : ClientState) (grant v : ℕ) → m.body ≡ to_client.Inquire grant → is_asking x.phase ≡ true → AsksFor m x v → (is_asking x.phase && holds_under x m.voter grant) ≡ true
counts_then m x grant v is asking a =
    let number = asks_then m x v (to_client.Inquire grant) is a in
    subst (λ n. (is_asking x.phase && holds_under x n grant) ≡ true) (sym a.voter) (let held = a.held in grind (arith, nat_tests))

fate-inquire_by : (b hindered : Bool) (x : ClientState) (m : ToClient) (grant u : ℕ) → m.body ≡ to_client.Inquire grant → (is_asking x.phase && holds_under x m.voter grant) ≡ b → is_hindered x ≡ hindered → IsSound x
    → u < 64 → VoteFate m x (take_inquire_by b hindered (see x m.seen) m.voter) u
fate-inquire_by false hindered x m grant u is e h s below =
    still m x _ u refl refl refl refl (λ asking a. absurd-true_false (is_asking x.phase && holds_under x m.voter grant) (counts_then m x grant u is asking a) e) (λ now _. now)
fate-inquire_by true false x m grant u is e h s below =
    let asks = (asks_for m x grant is e).1 in
    inl (record {
      held = refl;
      last = refl;
      given = refl;
      marked = λ was. has_with-before x.inquired m.voter u below was;
      new = λ now. elim (has-with_voter x.inquired m.voter u now) [
        | inl same ↦ inr (subst (AsksFor m x) (sym same) asks)
        | inr was ↦ inl was
      ];
      asked = λ _ a. (h, subst (λ n. has (inquire x m.voter).inquired n ≡ true) a.voter (has_with-self x.inquired m.voter (subst (λ n. n < 64) (sym a.voter) below)));
      clear = λ now _. absurd-true_false (is_hindered x) now h;
    })
fate-inquire_by true true x m grant u is e h s below =
    let y = see x m.seen in
    let asks = asks_for m x grant is e in
    let w = wide x s in
    let k = gives-relinquish y m.voter (record { places = record { held = s.places.held; last = s.places.last }; inquired = w.inquired; given = w.given }) in
    elim (k.votes u below) [
      | inl same ↦
          let a = same.0 in
          still m x (take_inquire_by true true y m.voter) u a.held a.last a.given a.inquired
          (λ _ asked. absurd-true_false (holds x u) asked.held (same.1 (one_voter m.voter u asked.voter))) (λ _ _. h)
      | inr given ↦
          let g = given.0 in
          inr (inr (record {
            asking = asks.0;
            had = g.had;
            gone = g.gone;
            last = g.last;
            given = g.given;
            inquired = g.inquired;
            sent = given.1;
            why = inr (subst (AsksFor m x) (voter_one m.voter u given.2) asks.1);
          }))
    ]

-- any message

is_asking-from_failed : (x : ClientState) (v stamp : ℕ) → (is_asking x.phase && stamp == x.stamp && is_member x v && not (holds x v)) ≡ true → is_asking x.phase ≡ true
is_asking-from_failed x v stamp e = grind (arith, nat_tests)

fate-body : (x : ClientState) (m : ToClient) (b : ClientBody) (u : ℕ) → m.body ≡ b → IsSound x → u < 64 → VoteFate m x (take_body (see x m.seen) m.voter b) u
unfolding take_locked take_fail take_inquire
fate-body x m (to_client.Locked stamp grant) u is s below = fate-locked_by _ _ x m stamp grant u is refl refl s below
fate-body x m (to_client.Fail stamp) u is s below = fate-fail_by _ x m stamp u is (is_asking-from_failed x m.voter stamp) s below
fate-body x m (to_client.Inquire grant) u is s below = fate-inquire_by _ _ x m grant u is refl refl s below

-- places and marks

wide-hold : (p : Phase) (x : ClientState) (v g : ℕ) → IsWide x → IsWide (record (hold x v g) { phase = p })
wide-hold p x v g w = record {
  places = record { held = length-set x.held v g ∙ w.places.held; last = w.places.last };
  inquired = λ u is. without_below x.inquired v u is;
  given = λ u is. without_below x.relinquished v u is;
}

wide-enter : (b : Bool) (x : ClientState) (v g : ℕ) → IsWide x → IsWide (enter_if b (hold x v g)).state
wide-enter false x v g w = wide-hold x.phase x v g w
wide-enter true x v g w = wide-hold Inside x v g w

wide-locked_by : (current fresh : Bool) (x : ClientState) (v stamp g : ℕ) → IsWide x → IsWide (take_locked_by current fresh x v stamp g).state
wide-locked_by true true x v stamp g w = wide-enter _ x v g w
wide-locked_by true false x v stamp g w = w
wide-locked_by false b x v stamp g w = w

wide-fail : (x : ClientState) (v : ℕ) → IsWide x → IsWide (fail x v)
wide-fail x v w = record { places = record { held = w.places.held; last = w.places.last }; inquired = w.inquired; given = w.given }

wide-fail_by : (b : Bool) (x : ClientState) (v : ℕ) → IsWide x → IsWide (take_fail_by b x v).state
wide-fail_by false x v w = w
wide-fail_by true x v w = (gives-relinquish_each (fail x v) (filter (is_inquired (fail x v)) (members x)) (wide-fail x v w)).wide

wide-inquire_by : (b hindered : Bool) (x : ClientState) (v : ℕ) → IsWide x → IsWide (take_inquire_by b hindered x v).state
wide-inquire_by false hindered x v w = w
wide-inquire_by true false x v w = record { places = record { held = w.places.held; last = w.places.last }; inquired = λ u is. with_below x.inquired v u is; given = w.given }
wide-inquire_by true true x v w = (gives-relinquish x v w).wide

wide-body : (x : ClientState) (v : ℕ) (b : ClientBody) → IsWide x → IsWide (take_body x v b).state
unfolding take_locked take_fail take_inquire
wide-body x v (to_client.Locked stamp grant) w = wide-locked_by _ _ x v stamp grant w
wide-body x v (to_client.Fail stamp) w = wide-fail_by _ x v w
wide-body x v (to_client.Inquire grant) w = wide-inquire_by _ _ x v w

wide-see : (x : ClientState) (n : ℕ) → IsWide x → IsWide (see x n)
wide-see x n w = record { places = record { held = w.places.held; last = w.places.last }; inquired = w.inquired; given = w.given }

pub wide-take : (x : ClientState) (m : ToClient) → IsSound x → IsWide (take x m).state
unfolding take
wide-take x m s = wide-body (see x m.seen) m.voter m.body (wide-see x m.seen (wide x s))

-- of voters from 64 on there is no vote
fate-past : (m : ToClient) (x : ClientState) (o : Outcome) (v : ℕ) → IsWide x → IsWide o.state → 64 ≤ v → VoteFate m x o v
fate-past m x o v w z past =
    let a = w.places in
    let b = z.places in
    still m x o v (get_or_past o.state.held v 0 (omega arith) ∙ sym (get_or_past x.held v 0 (omega arith))) (get_or_past o.state.last v 0 (omega arith) ∙ sym (get_or_past x.last v 0 (omega arith)))
    (no_mark (is_relinquished o.state v) (z.given v) ∙ sym (no_mark (is_relinquished x v) (w.given v))) (no_mark (is_inquired o.state v) (z.inquired v) ∙ sym (no_mark (is_inquired x v) (w.inquired v)))
    (λ _ asks. (let place = get_or-some_below x.held v asks.held in absurd (omega arith))) (λ _ is. (let below = w.inquired v is in absurd (omega arith)))
  where
    no_mark : (b : Bool) → (b ≡ true → v < 64) → b ≡ false
    no_mark b below = false_from_ne_true b (λ is. let less = below is in omega arith)

pub VoteFate-take : (x : ClientState) (m : ToClient) (v : ℕ) → IsSound x → VoteFate m x (take x m) v
unfolding take
VoteFate-take x m v s = elim (cases_lt v 64) [
  | inl below ↦ fate-body x m m.body v refl s below
  | inr past ↦ fate-past m x (take_body (see x m.seen) m.voter m.body) v (wide x s) (wide-body (see x m.seen) m.voter m.body (wide-see x m.seen (wide x s))) past
]

-- ---- what is sent

returned : (m : ToClient) (x : ClientState) (o : Outcome) (n : ToVoter) → n.client ≡ x.id → holds x n.voter ≡ true → held_of o.state n.voter ≡ 0 → n.body ≡ asks.Relinquish (held_of x n.voter) → VoteFate m x o n.voter
    → IsGiving m x o n ⊎ IsReleasing m x n
returned m x o n client had gone body (inl kept) = absurd-true_false (holds x n.voter) had (ap (ltb 0) (sym kept.held ∙ gone))
returned m x o n client had gone body (inr (inl brought)) = absurd-true_false (holds x n.voter) had brought.free
returned m x o n client had gone body (inr (inr back)) = inl (record { client = client; vote = back; body = body })

abbrev Fates : ToClient → ClientState → Outcome → Type 0
Fates m x o = (v : ℕ) → VoteFate m x o v

sends-fail_by : (b : Bool) (x : ClientState) (m : ToClient) → IsSound x → Fates m x (take_fail_by b (see x m.seen) m.voter) → SendsBack m x (take_fail_by b (see x m.seen) m.voter)
sends-fail_by false x m s fates = tt
sends-fail_by true x m s fates =
    let y = fail (see x m.seen) m.voter in
    let o = take_fail_by true (see x m.seen) m.voter in
    let k = gives-relinquish_each y (filter (is_inquired y) (members y)) (wide-fail (see x m.seen) m.voter (wide-see x m.seen (wide x s))) in
    AllByRecursion-weaker (GivesOne y o.state) (λ n. IsGiving m x o n ⊎ IsReleasing m x n) (λ n g. returned m x o n g.client g.had g.gone g.body (fates n.voter)) o.out k.out

sends-inquire_by : (b hindered : Bool) (x : ClientState) (m : ToClient) → IsSound x → Fates m x (take_inquire_by b hindered (see x m.seen) m.voter) → SendsBack m x (take_inquire_by b hindered (see x m.seen) m.voter)
sends-inquire_by false hindered x m s fates = tt
sends-inquire_by true false x m s fates = tt
sends-inquire_by true true x m s fates =
    let y = see x m.seen in
    let o = take_inquire_by true true y m.voter in
    AllByRecursion-weaker (GivesOne y o.state) (λ n. IsGiving m x o n ⊎ IsReleasing m x n) (λ n g. returned m x o n g.client g.had g.gone g.body (fates n.voter)) o.out
    (gives-relinquish y m.voter (wide-see x m.seen (wide x s))).out

sends-enter : (b : Bool) (x z : ClientState) (m : ToClient) → SendsBack m x (enter_if b z)
sends-enter false x z m = tt
sends-enter true x z m = tt

sends-locked_by : (current fresh : Bool) (x : ClientState) (m : ToClient) (stamp grant : ℕ) → m.body ≡ to_client.Locked stamp grant → is_current x stamp ≡ current
    → SendsBack m x (take_locked_by current fresh (see x m.seen) m.voter stamp grant)
sends-locked_by false fresh x m stamp grant is over = (inr (record { stamp = stamp; grant = grant; client = refl; voter = refl; locked = is; over = over; body = refl }), tt)
sends-locked_by true false x m stamp grant is current = tt
sends-locked_by true true x m stamp grant is current = sends-enter _ x (hold (see x m.seen) m.voter grant) m

sends-body : (x : ClientState) (m : ToClient) (b : ClientBody) → m.body ≡ b → IsSound x → Fates m x (take_body (see x m.seen) m.voter b) → SendsBack m x (take_body (see x m.seen) m.voter b)
unfolding take_locked take_fail take_inquire
sends-body x m (to_client.Locked stamp grant) is s fates = sends-locked_by _ _ x m stamp grant is refl
sends-body x m (to_client.Fail stamp) is s fates = sends-fail_by _ x m s fates
sends-body x m (to_client.Inquire grant) is s fates = sends-inquire_by _ _ x m s fates

pub SendsBack-take : (x : ClientState) (m : ToClient) → IsSound x → SendsBack m x (take x m)
unfolding take
SendsBack-take x m s = sends-body x m m.body refl s (λ v. VoteFate-take x m v s)
