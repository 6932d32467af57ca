-- The slack of an even cycle: how far any tickets in a row are from the load.
use Rattle.std.specs.Prelude.{◌≡◌, ℕ, ◌*◌, ◌+◌, ◌<◌, ◌≤◌, slice_index}
use Rattle.quorum_set.specs.Counts.{count_of}
use Rattle.certificate.specs.Certificates.{Weighted, cycle_len, cycle_ratio}
use Rattle.even.specs.EvenCycles.{EvenOrder, window}
use Rattle.even.specs.declared.slack.Slack.{Slack}

-- The load is the ratio of a cycle divided by the cycle's length. This is the denominator
-- of that quotient, as long as it is not in lowest terms.
abbrev pub slack_unit : Weighted → ℕ
slack_unit w = cycle_len w * (cycle_ratio w).1

-- Any n tickets in a row use each voter at most n times the load plus `excess / unit`, times the
-- voter's capacity.
abbrev pub IsWithin : EvenOrder → ℕ → Type 0
IsWithin o excess =
    (i first n : ℕ) → i < o.weights.system.voters
    → slack_unit o.weights * count_of o.weights.system i (window o first n)
    ≤ slice_index o.weights.capacities i * (n * (cycle_ratio o.weights).0 + excess)

-- the smallest excess that any tickets in a row are within
pub record IsExcess (o : EvenOrder) (excess : ℕ) : Type 0 where
  pub bound : IsWithin o excess
  pub least : (other : ℕ) → IsWithin o other → excess ≤ other

-- the slack of an even cycle: its smallest excess, and the unit
pub record IsSlack (o : EvenOrder) (slack : Slack) : Type 0 where
  pub excess : IsExcess o slack.excess
  pub unit : slack.unit ≡ slack_unit o.weights
