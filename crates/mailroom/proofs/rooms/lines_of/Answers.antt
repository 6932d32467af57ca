use Rattle.std.proofs.Common.{sym, subst, ◌∙◌, rules}
use Rattle.mailroom.specs.Rooms.{AreNumbered}
use Rattle.mailroom.proofs.NumberLemmas.{AreNumbered-push}
use Rattle.mailroom.proofs.rooms.lines_of.Goals as goal

pub loop-voter-preserved : goal.loop-voter-preserved
loop-voter-preserved c =
    let before = c.loop-voter.lines.items in
    (search rules, subst AreNumbered (sym c.in_ok-push.ensures.items) (AreNumbered-push before c.new.result c.loop-voter.invariant.1 (c.new.ensures ∙ sym c.loop-voter.invariant.0)))
