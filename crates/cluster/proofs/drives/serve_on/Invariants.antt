use Rattle.std.specs.Prelude.{◌≡◌, ◌+◌, ◌*◌, ◌<◌, ◌≤◌, true}
use Rattle.cluster.specs.Drives.{HasServedOn}
use Rattle.cluster.proofs.drives.serve_on.Given as goal

abbrev pub invariant-loop : goal.invariant-loop
invariant-loop g l = HasServedOn l.counter l.fn.member l.member × (l.turns + 2 * l.counter ≤ l.initial.turns) × (0 < l.counter → g.G.Gate.lets l.fn.gate l.fn.member.requester.id ≡ true)
