use Rattle.std.proofs.Common.{◌≢◌, ℕ, List, arith, sym}
use Rattle.std.proofs.lemmas.Bool.Decides.{nat_tests}
use Rattle.stories.proofs.Readings.{place-more, place-none, shorter}
use Rattle.stories.proofs.reading.place_of.Goals as goal

pub lines-preserved : goal.lines-preserved
lines-preserved c =
    let left = c.left_behind-left.result in
    let test = c.if-left-eq0.false in
    let some : left ≢ 0 = grind (arith, nat_tests) in
    let first : List ℕ × List ℕ = (c.in-Some.line.now, c.in-Some.after.now) in
    record {
      counted = omega (arith, c.lines.invariant.counted, place-more c.lines.rest.now first c.lines.left left (sym c.in-Some.ensures) c.left_behind-left.ensures some);
      few = omega (arith, c.lines.invariant.few, shorter c.lines.rest.now first (sym c.in-Some.ensures));
    }

pub returns : goal.returns
returns c = omega (arith, c.lines.invariant.counted, place-none c.lines.rest.now c.lines.left (sym c.in_default.ensures))
