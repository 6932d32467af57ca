-- The guard of a story: what it did with a pass, and what it has seen afterwards.
use Rattle.std.specs.Prelude.{ℕ, ◌+◌, ◌^◌, nat_le, nat_lt, Bool, true, false, not, List, map, find, Option, Some, None, option_map, slice_index}
use Rattle.std.specs.List.{list_any, range_with_len}
use Rattle.numbers.specs.Bounds.{max_voters}
use Rattle.fence.specs.Passes.{highest_with, is_not_older}
use Rattle.stories.specs.declared.happening.Happening.{Happening}
use Rattle.stories.specs.declared.happening.Happening.TheVariants as happenings
use Rattle.stories.specs.declared.happening.Happening.TheVariants.{Admitted, NoTurn}
use Rattle.stories.specs.declared.happening.Late.{Late}

-- what the guard has seen of each voter, and the turn that it gave last
pub record Guard : Type 0 where
  pub seen : List ℕ
  pub turn : ℕ

-- the numbers of all voters that there can be
abbrev pub all_voters : List ℕ
all_voters = range_with_len 0 max_voters

-- the first voter whose grant in the pass is older than what was seen, if there is one
unfoldable pub first_older : List ℕ → List ℕ → Option ℕ
first_older seen pass = find (λ v. not (is_not_older seen pass v)) all_voters

-- why the guard refuses a pass for an older grant, if it does
abbrev pub late_of : List ℕ → List ℕ → Option Late
late_of seen pass = option_map (λ v. record { voter = v; shown = slice_index pass v; seen = slice_index seen v }) (first_older seen pass)

-- some voter's grant in the pass is newer than what was seen
unfoldable pub is_newer : List ℕ → List ℕ → Bool
is_newer seen pass = list_any (λ v. nat_lt (slice_index seen v) (slice_index pass v)) all_voters

-- the highest grant of each voter, with those of the pass
unfoldable pub seen_with : List ℕ → List ℕ → List ℕ
seen_with seen pass = map (λ v. highest_with seen pass v) all_voters

-- no turn is left for a pass that shows something newer
abbrev pub is_spent : Guard → Bool
is_spent g = nat_le (2 ^ 64) (g.turn + 1)

-- by whether a grant is older, whether one is newer, and whether no turn is left
abbrev pub guard_did_by : Option Late → Bool → Bool → Guard → Happening
guard_did_by (Some late) newer spent g = happenings.Late late
guard_did_by None true true g = NoTurn
guard_did_by None true false g = Admitted (g.turn + 1)
guard_did_by None false spent g = Admitted g.turn

-- what the guard did with a pass
abbrev pub guard_did : Guard → List ℕ → Happening
guard_did g pass = guard_did_by (late_of g.seen pass) (is_newer g.seen pass) (is_spent g) g

-- the guard afterwards, by the same; one that refuses a pass is unchanged
abbrev pub guard_after_by : Option Late → Bool → Bool → Guard → List ℕ → Guard
guard_after_by (Some late) newer spent g pass = g
guard_after_by None true true g pass = g
guard_after_by None true false g pass = record { seen = seen_with g.seen pass; turn = g.turn + 1 }
guard_after_by None false spent g pass = record { seen = seen_with g.seen pass; turn = g.turn }

-- the guard after it was shown a pass
abbrev pub guard_after : Guard → List ℕ → Guard
guard_after g pass = guard_after_by (late_of g.seen pass) (is_newer g.seen pass) (is_spent g) g pass
