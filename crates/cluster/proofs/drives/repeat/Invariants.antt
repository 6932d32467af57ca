use Rattle.std.specs.Prelude.{◌≡◌, ◌≤◌}
use Rattle.cluster.proofs.drives.repeat.Given as goal

abbrev pub invariant-loop : goal.invariant-loop
invariant-loop g l = (l.member ≡ record l.fn.member { lost = l.member.lost }) × (l.fn.member.lost ≤ l.member.lost)
