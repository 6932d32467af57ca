use Rattle.std.proofs.Common.{◌≡◌, ◌<◌, take}
use Rattle.std.specs.List.{All}
use Rattle.show_coteries.proofs.named.bytes_of.Given as goal

-- the numbers so far, which are bytes
abbrev pub invariant-loop-i : goal.invariant-loop-i
invariant-loop-i l = (l.bytes.items ≡ take l.i l.sizes) × All (λ n. n < 256) (take l.i l.sizes)
