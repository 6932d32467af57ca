use Rattle.std.proofs.Common.{◌+◌, ◌≤◌, sym, ◌∙◌, arith}
use Rattle.members.specs.Losses.{LosesAtLeast}
use Rattle.cluster.specs.Drives.{KeepsWork}
use Rattle.cluster.specs.Patience.{most_starved, next_step}
use Rattle.cluster.proofs.DriveLemmas.{KeepsWork-lost}
use Rattle.cluster.proofs.PatienceLemmas.{LosesAtLeast-Waited, lost-Waited, starved-Waited, starved_test}
use Rattle.cluster.proofs.drives.enter.Given.{Over}
use Rattle.cluster.proofs.drives.enter.Goals.{After-wait}
use Rattle.cluster.proofs.drives.enter.Goals as goal

-- what is known after a wait
kept_work : (g : Over) (c : After-wait g) → KeepsWork c.args.member.now c.wait.new.member
kept_work g c =
    KeepsWork-lost c.args.member.now c.looks.member c.wait.new.member c.looks.invariant.kept c.wait.ensures.same
    (lost-Waited (next_step c.looks.patience) c.looks.patience c.wait.new.self c.looks.member.lost c.wait.new.member.lost c.wait.ensures.waited)

loses : (g : Over) (c : After-wait g) → LosesAtLeast c.wait.new.self.starved c.args.member.now.lost c.wait.new.member.lost
loses g c =
    LosesAtLeast-Waited (next_step c.looks.patience) c.looks.patience c.wait.new.self c.args.member.now.lost c.looks.member.lost c.wait.new.member.lost
    c.wait.ensures.waited c.looks.invariant.lost

few_more : (g : Over) (c : After-wait g) → c.wait.new.self.starved ≤ c.looks.patience.starved + 1
few_more g c =
    starved-Waited (next_step c.looks.patience) c.looks.patience c.wait.new.self c.looks.member.lost c.wait.new.member.lost c.wait.ensures.waited

pub returns-then-is_starved-clause-ended : goal.returns-then-is_starved-clause-ended
returns-then-is_starved-clause-ended g c =
    let most : most_starved ≤ c.wait.new.self.starved = starved_test _ _ (sym c.is_starved.ensures ∙ c.if-is_starved.true) in
    omega (arith, most, c.looks.invariant.spared, few_more g (goal.at.returns-then-is_starved-clause-ended g c).After-wait)

pub returns-then-is_starved-clause-lost : goal.returns-then-is_starved-clause-lost
returns-then-is_starved-clause-lost g c = loses g (goal.at.returns-then-is_starved-clause-lost g c).After-wait
