-- at most one request is inside
use Rattle.std.proofs.Common.{◌≡◌, ℕ, ◌+◌, ◌≤◌, true, List, Some, sym, subst, ◌∙◌, ◌⊎◌, inl, inr, arith}
use Rattle.std.proofs.lemmas.Bool.{cases_lt}
use Rattle.std.proofs.lemmas.Option.{same_Some}
use Rattle.quorum_set.specs.Meetings.{Meet}
use Rattle.world.specs.Visible.{IsAmong}
use Rattle.generations.specs.Plans.{IsSuccession, Plans}
use Rattle.generations.specs.Voters.{Request}
use Rattle.generations.specs.Exchanges.{AreInOrder, Event, IsFirst, IsInside, World, all_happen}
use Rattle.generations.proofs.Worlds.{AreRight, all_of, all_on, right_first}

-- the voter told the request that it has its vote
abbrev Told : World → Request → ℕ → Type 0
Told w r v = (w v).told r ≡ true

-- a voter of both quorums told one request alone
by_common : (count : ℕ) (plans : Plans) (w : World) → AreRight plans w → (a b : Request) → (i : IsInside plans w a) → (j : IsInside plans w b) → Meet count i.quorum j.quorum → a ≡ b
by_common count plans w is a b i j m =
    let right = is.right m.0 in
    same_Some a b (sym (right.live_told a (all_of (Told w a) i.quorum m.0 i.votes m.2)) ∙ right.live_told b (all_of (Told w b) j.quorum m.0 j.votes m.3))

-- while a request of a plan is inside, no voter has given its vote by a plan after the next one
behind : (plans : Plans) (w : World) → AreRight plans w → (a b : Request) → IsInside plans w a → (v : ℕ) → (w v).live.vote ≡ Some b → a.plan + 2 ≤ b.plan → ⊥
behind plans w is a b i v has_it far =
    let past = (is.began v).live b has_it a.plan far i.quorum i.among in
    let less = past.2 in
    let right = is.right past.0 in
    let most = right.saved_taken a (right.saved_told a (all_of (Told w a) i.quorum past.0 i.votes past.1)) in
    absurd (omega arith)

pub none_behind : (plans : Plans) (start : World) (events : List Event) (first second : Request) (v : ℕ) → IsFirst start → AreInOrder plans start events
    → IsInside plans (all_happen start events) first → (all_happen start events v).live.vote ≡ Some second → first.plan + 2 ≤ second.plan → ⊥
none_behind plans start events a b v begins order i has_it far =
    behind plans (all_happen start events) (all_on plans start events (right_first plans start begins) order) a b i v has_it far

far_apart : (count : ℕ) (plans : Plans) → IsSuccession count plans → (w : World) → AreRight plans w → (a b : Request) → IsInside plans w a → IsInside plans w b → a.plan + 2 ≤ b.plan → ⊥
far_apart count plans succession w is a b i j far =
    let some = succession.one b.plan j.quorum j.quorum j.among j.among in
    behind plans w is a b i some.0 ((is.right some.0).live_told b (all_of (Told w b) j.quorum some.0 j.votes some.2)) far

-- a request of the same plan, or of the next one
near : (count : ℕ) (plans : Plans) → IsSuccession count plans → (w : World) → AreRight plans w → (a b : Request) → (i : IsInside plans w a) → (j : IsInside plans w b) → (b.plan ≡ a.plan) ⊎ (b.plan ≡ a.plan + 1) → a ≡ b
near count plans succession w is a b i j (inl same) =
    by_common count plans w is a b i j (succession.one a.plan i.quorum j.quorum i.among (subst (λ (n : ℕ). IsAmong (plans n) j.quorum) same j.among))
near count plans succession w is a b i j (inr next) =
    by_common count plans w is a b i j (succession.next a.plan i.quorum j.quorum i.among (subst (λ (n : ℕ). IsAmong (plans n) j.quorum) next j.among))

-- a request of no older plan
no_older : (count : ℕ) (plans : Plans) → IsSuccession count plans → (w : World) → AreRight plans w → (a b : Request) → IsInside plans w a → IsInside plans w b → a.plan ≤ b.plan → a ≡ b
no_older count plans succession w is a b i j most = elim (cases_lt a.plan b.plan) [
  | inl less ↦ elim (cases_lt (a.plan + 1) b.plan) [
    | inl far ↦ absurd (far_apart count plans succession w is a b i j (omega arith))
    | inr least ↦ near count plans succession w is a b i j (inr (omega arith))
  ]
  | inr least ↦ near count plans succession w is a b i j (inl (omega arith))
]

pub one_inside : (count : ℕ) (plans : Plans) (start : World) (events : List Event) (first second : Request) → IsSuccession count plans → IsFirst start → AreInOrder plans start events
    → IsInside plans (all_happen start events) first → IsInside plans (all_happen start events) second → first ≡ second
one_inside count plans start events a b succession begins order i j =
    let w = all_happen start events in
    let is = all_on plans start events (right_first plans start begins) order in
    elim (cases_lt a.plan b.plan) [
      | inl less ↦ no_older count plans succession w is a b i j (omega arith)
      | inr least ↦ sym (no_older count plans succession w is b a j i (omega arith))
    ]
