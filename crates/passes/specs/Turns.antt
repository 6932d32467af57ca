-- Turns: one number that a pass may show where only one number is compared, as a fencing token.
use Rattle.std.specs.Prelude.{ℕ, ◌≡◌, ◌<◌, ◌≤◌, ◌⊎◌, List, [], ◌∷◌, ◌++◌, Some, slice_index}
use Rattle.std.specs.List.{AllByRecursion}
use Rattle.voter.specs.declared.state.Grant.{Grant}
use Rattle.voter_node.specs.Lives.{Fate, lived}
use Rattle.passes.specs.Grants.{AreOfOne, Pass, Voters}
use Rattle.passes.specs.Guarded.{Entry}

-- At some moment of its life a voter had saved that it has this grant, and that it gives no number up to this one any more: its
-- number, its first limit, its life.
pub record HasSkipped (id limit : ℕ) (life : List Fate) (grant top : ℕ) : Type 0 where
  pub before : List Fate
  pub after : List Fate
  pub parts : life ≡ before ++ after
  pub holder : Grant
  pub held : (lived id limit before).saved.held ≡ Some holder
  pub number : holder.grant ≡ grant
  pub spent : top ≤ (lived id limit before).saved.granted

-- The number is a turn of the pass: no grant of the pass is greater, and each of its voters skipped the numbers up to it while
-- it had the grant of the pass.
pub record IsTurnOf (voters : Voters) (p : Pass) (turn : ℕ) : Type 0 where
  pub most : (v : ℕ) → slice_index p.grants v ≤ turn
  pub skipped : (v : ℕ) → 1 ≤ slice_index p.grants v → HasSkipped v (voters.limit v) (voters.life v) (slice_index p.grants v) turn

-- The second pass is newer, and has the greater turn: some voter has a grant in both, and each such voter gave the second one
-- later.
pub record IsNewerBy (p q : Pass) (turn later : ℕ) : Type 0 where
  pub rises : turn < later
  pub voter : ℕ
  pub first_has : 1 ≤ slice_index p.grants voter
  pub second_has : 1 ≤ slice_index q.grants voter
  pub newer : (v : ℕ) → 1 ≤ slice_index p.grants v → 1 ≤ slice_index q.grants v → slice_index p.grants v < slice_index q.grants v

-- two passes with turns are of one request, or one of them is newer, and has the greater turn
abbrev pub AreOrdered : Pass → Pass → ℕ → ℕ → Type 0
AreOrdered p q turn later = AreOfOne p q ⊎ (IsNewerBy p q turn later ⊎ IsNewerBy q p later turn)

-- A store takes what shows no smaller number than it took before: these passes with these turns, one after the other.
abbrev pub AreTaken : List Entry → Type 0
AreTaken [] = Unit {0}
AreTaken (e ∷ es) = AllByRecursion (λ f. e.turn ≤ f.turn) es × AreTaken es

-- a later one of these is of the same request, or newer
abbrev pub AreNewerOrOne : List Entry → Type 0
AreNewerOrOne [] = Unit {0}
AreNewerOrOne (e ∷ es) = AllByRecursion (λ f. AreOfOne e.pass f.pass ⊎ IsNewerBy e.pass f.pass e.turn f.turn) es × AreNewerOrOne es
