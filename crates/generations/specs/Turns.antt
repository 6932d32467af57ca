-- Turns of passes by plans that replace one another.
--
-- Each voter has a floor and a ceiling for each plan. When it settles a plan, it begins to give numbers above its floor of that
-- plan. When it retires the plan, its numbers are at most its ceiling of that plan, and it says so to those that settle the next
-- one.
use Rattle.std.specs.Prelude.{ℕ, ◌≡◌, ◌+◌, ◌<◌, ◌≤◌, ◌⊎◌, true, List, [], ◌∷◌}
use Rattle.std.specs.List.{AllByRecursion}
use Rattle.numbers.specs.Sets.{has}
use Rattle.world.specs.Visible.{IsAmong}
use Rattle.passes.specs.Grants.{AreOfOne, Gave, IsPass, Pass, Voters}
use Rattle.passes.specs.Guarded.{Entry}
use Rattle.passes.specs.Turns.{HasSkipped, IsNewerBy, IsTurnOf}
use Rattle.generations.specs.Plans.{Plans}

-- the plan by which each request asks: its client, its stamp
abbrev pub AsksBy : Type 0
AsksBy = ℕ → ℕ → ℕ

-- the plan of a pass: that of its request
abbrev pub plan_of : AsksBy → Pass → ℕ
plan_of by p = by p.client p.stamp

-- the pass covers a quorum of its plan, by grants that voters gave
abbrev pub IsPassBy : Plans → AsksBy → Voters → Pass → Type 0
IsPassBy plans by voters p = IsPass (plans (plan_of by p)) (Gave voters) p

-- the second plan is the first one, or the next one
abbrev pub AreNear : ℕ → ℕ → Type 0
AreNear n m = (m ≡ n) ⊎ (m ≡ n + 1)

-- a number for each plan and each voter
abbrev pub Marks : Type 0
Marks = ℕ → ℕ → ℕ

-- How voters count, with these floors and ceilings.
pub record KeepMarks (by : AsksBy) (voters : Voters) (floor ceiling : Marks) : Type 0 where
  -- to a request of the next plan a voter gives only a number above its floor of a plan
  pub above : (n v client stamp grant : ℕ) → Gave voters v client stamp grant → by client stamp ≡ n + 1 → floor n v < grant
  -- for a request of a plan that has its vote, a voter skips numbers only up to its ceiling of that plan
  pub below : (n v client stamp grant top : ℕ) → Gave voters v client stamp grant → by client stamp ≡ n
      → HasSkipped v (voters.limit v) (voters.life v) grant top → top ≤ ceiling n v
  -- a voter settles a plan before it retires it
  pub rises : (n v : ℕ) → floor n v ≤ ceiling n v

-- Each voter of a quorum of the next plan settled it: its floor is no smaller than the ceilings of this plan that it learned, and
-- it learned one from each quorum of this plan.
pub record IsSettled (plans : Plans) (floor ceiling : Marks) (n : ℕ) : Type 0 where
  pub quorum : List ℕ
  pub among : IsAmong (plans (n + 1)) quorum
  pub learned : (u : ℕ) → has quorum u ≡ true → (q : List ℕ) → IsAmong (plans n) q
      → (v : ℕ) × (has q v ≡ true) × (ceiling n v ≤ floor (n + 1) u)

-- a voter learned the ceilings of a quorum of this plan: its floor of the next plan is no smaller
pub record HasLearned (plans : Plans) (floor ceiling : Marks) (n u : ℕ) : Type 0 where
  pub quorum : List ℕ
  pub among : IsAmong (plans n) quorum
  pub most : (v : ℕ) → has quorum v ≡ true → ceiling n v ≤ floor (n + 1) u

-- each plan is settled so before the one after the next one begins, up to the last plan
abbrev pub AreSettled : Plans → Marks → Marks → ℕ → Type 0
AreSettled plans floor ceiling last = (n : ℕ) → n + 2 ≤ last → IsSettled plans floor ceiling n

-- the second pass is of a plan after the next one, and has the greater turn
pub record IsOfLaterPlan (by : AsksBy) (p q : Pass) (turn later : ℕ) : Type 0 where
  pub plan : plan_of by p + 2 ≤ plan_of by q
  pub rises : turn < later

-- the second pass is newer, and has the greater turn: by its plan, or at each voter that has a grant in both
abbrev pub IsLater : AsksBy → Pass → Pass → ℕ → ℕ → Type 0
IsLater by p q turn later = IsNewerBy p q turn later ⊎ IsOfLaterPlan by p q turn later

-- two passes with turns are of one request, or one of them is newer, and has the greater turn
abbrev pub AreInTurn : AsksBy → Pass → Pass → ℕ → ℕ → Type 0
AreInTurn by p q turn later = AreOfOne p q ⊎ (IsLater by p q turn later ⊎ IsLater by q p later turn)

-- a pass of one of the plans up to the last one, and its turn
pub record HasTurn (plans : Plans) (by : AsksBy) (voters : Voters) (last : ℕ) (e : Entry) : Type 0 where
  pub few : plan_of by e.pass ≤ last
  pub pass : IsPassBy plans by voters e.pass
  pub turn : IsTurnOf voters e.pass e.turn

-- a later one of these is of the same request, or newer
abbrev pub AreLaterOrOne : AsksBy → List Entry → Type 0
AreLaterOrOne by [] = Unit {0}
AreLaterOrOne by (e ∷ es) = AllByRecursion (λ f. AreOfOne e.pass f.pass ⊎ IsLater by e.pass f.pass e.turn f.turn) es × AreLaterOrOne by es
