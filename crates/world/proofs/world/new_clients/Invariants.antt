use Rattle.std.proofs.Common.{◌≡◌, map}
use Rattle.std.specs.List.{range_with_len}
use Rattle.requester.specs.Steps.{start}
use Rattle.world.proofs.world.new_clients.Given as goal

abbrev pub invariant-loop-c : goal.invariant-loop-c
invariant-loop-c l = l.clients.items ≡ map (λ i. start i l.fn.limit) (range_with_len 0 l.c)
