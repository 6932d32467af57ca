use Rattle.std.proofs.Common.{◌<◌, IfSome, length}
use Rattle.near.proofs.tickets.neediest.Given as goal

abbrev pub invariant-loop-place : goal.invariant-loop-place
invariant-loop-place l = IfSome l.best (λ place. place < length l.used)
