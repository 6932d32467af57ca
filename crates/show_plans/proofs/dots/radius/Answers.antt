use Rattle.std.proofs.Common.{◌<◌, ◌≤◌, ◌+◌, ◌*◌, arith}
use Rattle.std.proofs.Math.Nat.{mul-le-mul}
use Rattle.show_plans.proofs.dots.radius.Goals as goal

-- src/dots.rt:45:1
pub returns-clause-nearest : goal.returns-clause-nearest
returns-clause-nearest c =
    let grown : c.isqrt.result + 1 ≤ c.max.result + 1 = omega arith in
    let squares : (c.isqrt.result + 1) * (c.isqrt.result + 1) ≤ (c.max.result + 1) * (c.max.result + 1) = mul-le-mul grown grown in
    grind (arith, squares, c.isqrt.ensures.next_square_gt)
