-- The grants that were seen, one voter at a time.
use Rattle.std.proofs.Common.{◌≡◌, ℕ, ◌<◌, ◌≤◌, List, length, arith}
use Rattle.std.specs.Prelude.{slice_index}
use Rattle.std.proofs.Math.Nat.{le-max_left, le-max_right}
use Rattle.fence.specs.Passes.{HasSeen, SeesAlso, highest_with}
use Rattle.fence.specs.Turns.{Raises, RaisesNone}

-- below this voter what was seen is raised, and from it on it is as before
pub record Raised (old shown : List ℕ) (n : ℕ) (seen : List ℕ) : Type 0 where
  pub places : length seen ≡ 64
  pub done : (v : ℕ) → v < n → slice_index seen v ≡ highest_with old shown v
  pub left : (v : ℕ) → n ≤ v → slice_index seen v ≡ slice_index old v

-- ---- what was seen stays seen

pub seen_now : (seen pass after : List ℕ) → SeesAlso seen pass after → HasSeen after pass
seen_now seen pass after sees v few =
    let is = sees v few in
    let more = le-max_right (slice_index seen v) (slice_index pass v) in
    omega arith

pub seen_still : (seen pass after other : List ℕ) → SeesAlso seen pass after → HasSeen seen other → HasSeen after other
seen_still seen pass after other sees has v few =
    let is = sees v few in
    let more = le-max_left (slice_index seen v) (slice_index pass v) in
    let before = has v few in
    omega arith

-- ---- turns

pub raises_some : (seen pass : List ℕ) → Raises seen pass → RaisesNone seen pass → ⊥
raises_some seen pass some none = let most = none some.0 some.1 in let less = some.2 in omega arith
