use Rattle.std.proofs.Common.{sym, subst, ◌∙◌, rules}
use Rattle.mailroom.specs.Rooms.{AreNumbered}
use Rattle.mailroom.proofs.NumberLemmas.{AreNumbered-push}
use Rattle.mailroom.proofs.rooms.mailboxes_of.Goals as goal

pub loop-client-preserved : goal.loop-client-preserved
loop-client-preserved g c =
    let before = c.loop-client.mailboxes.items in
    (search rules, subst AreNumbered (sym c.in_ok-push.ensures.items) (AreNumbered-push before c.new.result c.loop-client.invariant.1 (c.new.ensures ∙ sym c.loop-client.invariant.0)))
