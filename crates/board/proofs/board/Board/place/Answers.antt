use Rattle.std.proofs.Common.{length, ap, subst, arith}
use Rattle.quorum_set.specs.declared.bridge.Side.{Side}
use Rattle.board.specs.Quorums.{HasQuorum}
use Rattle.board.specs.Seats.{BoardState}
use Rattle.board.proofs.board.Board.place.Goals as goal

pub overflow_add-result : goal.overflow_add-result
overflow_add-result c =
    let board = c.args.self.now in
    let has = subst (λ (s : Side). HasQuorum board.firsts board.quorums s c.args.quorum) c.in-Second.is c.requires in
    omega (arith, has, ap (λ (b : BoardState). b.firsts) c.self.view_is, ap (λ (b : BoardState). length b.quorums) c.self.view_is, c.self.invariant.few_quorums)
