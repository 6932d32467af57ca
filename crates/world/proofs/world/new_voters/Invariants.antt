use Rattle.std.proofs.Common.{◌≡◌, map}
use Rattle.std.specs.List.{range_with_len}
use Rattle.voter.specs.Steps.{start}
use Rattle.world.proofs.world.new_voters.Given as goal

abbrev pub invariant-loop-v : goal.invariant-loop-v
invariant-loop-v l = l.voters.items ≡ map (λ i. start i l.fn.limit) (range_with_len 0 l.v)
