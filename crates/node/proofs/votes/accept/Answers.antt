use Rattle.std.proofs.Common.{sym, ap, ◌∙◌}
use Rattle.requester.specs.Words.{members}
use Rattle.board.specs.Seats.{ClientSeatState}
use Rattle.node.specs.Votes.{HoldsOnly}
use Rattle.std.specs.Prelude.{slice_index}
use Rattle.node.proofs.VoteLemmas.{HoldsOnly-hold, member_and_free}
use Rattle.node.proofs.votes.accept.Goals as goal

pub hold-requires-clause-free : goal.hold-requires-clause-free
hold-requires-clause-free c = ap (λ l. slice_index l c.args.message.now.voter) c.requires.held
    ∙ (member_and_free c.args.requester.now c.args.message.now (sym c.would_hold.ensures ∙ c.if-not-would_hold.false)).1

pub returns-clause-of_members : goal.returns-clause-of_members
returns-clause-of_members c =
    let x = c.args.requester.now in
    let m = c.args.message.now in
    let member = (member_and_free x m (sym c.would_hold.ensures ∙ c.if-not-would_hold.false)).0 in
    let only : HoldsOnly (members x) c.args.seat.now.held = λ v out. ap (λ l. slice_index l v) c.requires.held ∙ c.clients_keep_their_laws.ensures.of_members x c.requires.sound v out in
    HoldsOnly-hold (members x) m.voter m.body c.hold.result c.args.seat.now.held c.hold.new.seat.held member only c.hold.ensures.held
    (λ e. ap (λ (s : ClientSeatState). s.held) (c.hold.ensures.kept e))
