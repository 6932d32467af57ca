use Rattle.std.proofs.Common.{◌∙◌, arith}
use Rattle.construct.proofs.SetLemmas.{set_where-take_more, set_where-take_other}
use Rattle.construct.proofs.lists.set_of.Goals as goal
use Rattle.construct.proofs.lists.set_of.Goals.{then-from-lt-MAX_VOTERS, else-from-lt-MAX_VOTERS}

pub loop-member-preserved : goal.loop-member-preserved
loop-member-preserved c =
    let members = c.args.members.now in
    let at = c.loop-member.member-index in
    let set = c.loop-member.set in
    let within = c.loop-member-test.true in
    let so_far = c.loop-member.invariant in
    elim c.if-from-lt-MAX_VOTERS.branch [
      | then-from-lt-MAX_VOTERS w ↦ rw w.set-is (w.insert.ensures.members ∙ set_where-take_more members at set within so_far)
      | else-from-lt-MAX_VOTERS w ↦ rw w.set-is (set_where-take_other members at set within (omega arith) so_far)
    ]
