use Rattle.std.proofs.Common.{◌≡◌, ◌≤◌, eqb, filter, map, take}
use Rattle.std.specs.Int.{IsGcd}
use Rattle.std.specs.List.{All, range_with_len}
use Rattle.numbers.specs.Bounds.{max_cycle}
use Rattle.divisor.specs.Gcd.{gcd_of}
use Rattle.even.specs.Strides.{stride_at}
use Rattle.even.proofs.strides.near_golden.Given as goal

abbrev pub invariant-loop-turn : goal.invariant-loop-turn
invariant-loop-turn l = record {
  strides_are : l.strides.items ≡ take l.most (filter (λ s. eqb (gcd_of s l.len) 1) (map (stride_at l.len) (range_with_len 0 l.turn)));
  short : All (λ s. s ≤ max_cycle) l.strides.items;
  fair : All (λ s. IsGcd s l.len 1) l.strides.items;
}
