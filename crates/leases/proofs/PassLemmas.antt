-- Grants that a guard saw, and the grants that are shown later.
use Rattle.std.proofs.Common.{◌≡◌, ℕ, ◌<◌, ◌≤◌, true, false, List, [], ◌∷◌, ◌++◌, refl, sym, ap, subst, ◌∙◌, ◌⊎◌, inl, inr, arith, eqb, ltb}
use Rattle.std.specs.Prelude.{replicate, slice_index}
use Rattle.std.proofs.Math.Nat.{max-eq_left, max-eq_right}
use Rattle.std.proofs.lemmas.Bool.Decides.{nat_tests}
use Rattle.std.proofs.lemmas.List.{get_or-replicate}
use Rattle.fence.specs.Passes.{Admits, HasSeen, Refuses, SeesAlso, is_not_older}
use Rattle.leases.specs.Visits.{AdmitsAll, Visit, passes}
use Rattle.requester.specs.declared.state.ClientState.{ClientState}
use Rattle.requester.specs.Words.{held_of, holds_under}
use Rattle.world.specs.Restarts.{Happening, HasVote, IsNewer, Saved, all_happen, happens, pass_of}
use Rattle.world_state.specs.Steps.{Dealing, client_at}

-- ---- what happens, and what happens then

all_happen-append : (deal : Dealing) (hs ks : List Happening) (s : Saved) → all_happen deal (hs ++ ks) s ≡ all_happen deal ks (all_happen deal hs s)
all_happen-append deal [] ks s = refl
all_happen-append deal (h ∷ hs) ks s = all_happen-append deal hs ks (happens deal s h)

-- a grant that is shown is a vote that is held
held_vote : (x : ClientState) (v g : ℕ) → g ≡ held_of x v → 1 ≤ g → holds_under x v g ≡ true
held_vote x v g is some = grind (arith, nat_tests)

shown_vote : (s : Saved) (c v : ℕ) → 1 ≤ slice_index (pass_of s c) v → HasVote s c v (slice_index (pass_of s c) v)
shown_vote s c v some = held_vote (client_at s.live.clients c) v (held_of (client_at s.live.clients c) v) refl some

-- ---- one voter's grants

older_never : (seen pass : List ℕ) (v : ℕ) → slice_index seen v ≤ slice_index pass v → is_not_older seen pass v ≡ true
older_never seen pass v less = grind (arith, nat_tests)

not_shown : (seen pass : List ℕ) (v : ℕ) → slice_index pass v ≡ 0 → is_not_older seen pass v ≡ true
not_shown seen pass v none = grind (arith, nat_tests)

is_older : (seen pass : List ℕ) (v : ℕ) → 1 ≤ slice_index pass v → slice_index pass v < slice_index seen v → is_not_older seen pass v ≡ false
is_older seen pass v some less = grind (arith, nat_tests)

none_or_some : (n : ℕ) → (n ≡ 0) ⊎ (1 ≤ n)
none_or_some n = elim (eqb n 0) as (λ b. eqb n 0 ≡ b → (n ≡ 0) ⊎ (1 ≤ n)) [
  | true ↦ λ e. inl (grind (arith, nat_tests))
  | false ↦ λ e. inr (grind (arith, nat_tests))
] refl

less_or_not : (n m : ℕ) → (n < m) ⊎ (m ≤ n)
less_or_not n m = elim (ltb n m) as (λ b. ltb n m ≡ b → (n < m) ⊎ (m ≤ n)) [
  | true ↦ λ e. inl (grind (arith, nat_tests))
  | false ↦ λ e. inr (grind (arith, nat_tests))
] refl

-- ---- a pass that comes late

pub refused : (first second seen : List ℕ) → IsNewer first second → HasSeen seen second → Refuses seen first
refused first second seen newer has =
    let v = newer.0 in
    let less = newer.3 in
    let reached = has v newer.1 in
    (v, newer.1, is_older seen first v newer.2 (omega arith))

-- ---- passes in order

-- a client that has a vote later has no smaller number of it
abbrev pub Rises : Dealing → Saved → Type 0
Rises deal first = (before after : List Happening) (c d v g n : ℕ) → HasVote (all_happen deal before first) c v g
    → HasVote (all_happen deal after (all_happen deal before first)) d v n → g ≤ n

-- some client had this vote before, under this number
record WasHeld (deal : Dealing) (first now : Saved) (voter number : ℕ) : Type 0 where
  before : List Happening
  after : List Happening
  client : ℕ
  comes : now ≡ all_happen deal after (all_happen deal before first)
  vote : HasVote (all_happen deal before first) client voter number

-- each grant that the guard has seen was held before
abbrev AreHeld : Dealing → Saved → Saved → List ℕ → Type 0
AreHeld deal first now seen = (v : ℕ) → v < 64 → (slice_index seen v ≡ 0) ⊎ WasHeld deal first now v (slice_index seen v)

held_longer : (deal : Dealing) (first now : Saved) (hs : List Happening) (v g : ℕ) → WasHeld deal first now v g → WasHeld deal first (all_happen deal hs now) v g
held_longer deal first now hs v g was = record {
  before = was.before;
  after = was.after ++ hs;
  client = was.client;
  comes = ap (λ (s : Saved). all_happen deal hs s) was.comes ∙ sym (all_happen-append deal was.after hs (all_happen deal was.before first));
  vote = was.vote;
}

rises_to : (deal : Dealing) (first now : Saved) → Rises deal first → (c v g : ℕ) → WasHeld deal first now v g → 1 ≤ slice_index (pass_of now c) v → g ≤ slice_index (pass_of now c) v
rises_to deal first now rises c v g was some =
    rises was.before was.after was.client c v g (slice_index (pass_of now c) v) was.vote
    (subst (λ (s : Saved). HasVote s c v (slice_index (pass_of now c) v)) was.comes (shown_vote now c v some))

admits_one : (deal : Dealing) (first now : Saved) → Rises deal first → (seen : List ℕ) (c : ℕ) → AreHeld deal first now seen → Admits seen (pass_of now c)
admits_one deal first now rises seen c held v few = elim (none_or_some (slice_index (pass_of now c) v)) [
  | inl none ↦ not_shown seen (pass_of now c) v none
  | inr some ↦ older_never seen (pass_of now c) v (elim (held v few) [
    | inl new ↦ omega arith
    | inr was ↦ rises_to deal first now rises c v (slice_index seen v) was some
  ])
]

held_now : (deal : Dealing) (first : Saved) (hs : List Happening) (c v : ℕ) → 1 ≤ slice_index (pass_of (all_happen deal hs first) c) v
    → WasHeld deal first (all_happen deal hs first) v (slice_index (pass_of (all_happen deal hs first) c) v)
held_now deal first hs c v some = record { before = hs; after = []; client = c; comes = refl; vote = shown_vote (all_happen deal hs first) c v some }

held_after : (deal : Dealing) (first now : Saved) (hs : List Happening) → now ≡ all_happen deal hs first → (seen after : List ℕ) (c : ℕ) → AreHeld deal first now seen
    → SeesAlso seen (pass_of now c) after → AreHeld deal first now after
held_after deal first now hs is seen after c held sees v few = elim (less_or_not (slice_index seen v) (slice_index (pass_of now c) v)) [
  | inl less ↦
      let same : slice_index after v ≡ slice_index (pass_of now c) v = sees v few ∙ max-eq_right (omega arith) in
      let some : 1 ≤ slice_index (pass_of now c) v = omega arith in
      inr (subst (λ n. WasHeld deal first now v n) (sym same)
      (subst (λ (s : Saved). 1 ≤ slice_index (pass_of s c) v → WasHeld deal first s v (slice_index (pass_of s c) v)) (sym is) (held_now deal first hs c v) some))
  | inr most ↦
      let same : slice_index after v ≡ slice_index seen v = sees v few ∙ max-eq_left most in
      subst (λ n. (n ≡ 0) ⊎ WasHeld deal first now v n) (sym same) (held v few)
]

longer : (deal : Dealing) (first now : Saved) (hs : List Happening) (seen : List ℕ) → AreHeld deal first now seen → AreHeld deal first (all_happen deal hs now) seen
longer deal first now hs seen held v few = elim (held v few) [
  | inl new ↦ inl new
  | inr was ↦ inr (held_longer deal first now hs v (slice_index seen v) was)
]

admits_all : (deal : Dealing) (first : Saved) → Rises deal first → (now : Saved) (hs : List Happening) → now ≡ all_happen deal hs first → (seen : List ℕ) → AreHeld deal first now seen
    → (visits : List Visit) → AdmitsAll seen (passes deal visits now)
admits_all deal first rises now hs is seen held [] = tt
admits_all deal first rises now hs is seen held (w ∷ ws) =
    let then = all_happen deal w.since now in
    let comes : then ≡ all_happen deal (hs ++ w.since) first = ap (λ (s : Saved). all_happen deal w.since s) is ∙ sym (all_happen-append deal hs w.since first) in
    let still = longer deal first now w.since seen held in (
      admits_one deal first then rises seen w.client still,
      λ after sees. admits_all deal first rises then (hs ++ w.since) comes after (held_after deal first then (hs ++ w.since) comes seen after w.client still sees) ws,
    )

pub admitted_in_order : (deal : Dealing) (first : Saved) → Rises deal first → (visits : List Visit) → AdmitsAll (replicate 64 0) (passes deal visits first)
admitted_in_order deal first rises visits = admits_all deal first rises first [] refl (replicate 64 0) (λ v few. inl (get_or-replicate 64 v 0 0 few)) visits
