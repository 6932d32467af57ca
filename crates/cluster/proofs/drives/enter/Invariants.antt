use Rattle.std.specs.Prelude.{◌<◌, ◌≤◌}
use Rattle.members.specs.Losses.{LosesAtLeast}
use Rattle.cluster.specs.Drives.{KeepsWork}
use Rattle.cluster.specs.Patience.{most_starved}
use Rattle.cluster.proofs.drives.enter.Given as goal

abbrev pub invariant-looks : goal.invariant-looks
invariant-looks g l = record {
  kept : KeepsWork l.initial.member l.member;
  turns : l.turns ≤ l.initial.turns;
  spared : l.patience.starved < most_starved;
  lost : LosesAtLeast l.patience.starved l.initial.member.lost l.member.lost;
}

abbrev pub decreases-looks : goal.decreases-looks
decreases-looks g l = l.turns
