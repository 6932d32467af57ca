use Rattle.std.proofs.Common.{◌<◌, ℕ, length, subst}
use Rattle.board.specs.Quorums.{quorum_at, HoldsAll}
use Rattle.board.proofs.Register.{Read-allowed}
use Rattle.board.proofs.client.read.Goals as goal

pub load-requires : goal.load-requires
load-requires g c =
    let pick = c.requires.pick in
    let qs = c.args.table.now.shared.key.quorums in (
      c.requires.table.0,
      c.requires.table.1,
      Read-allowed c.args.table.now.shared.key _ _ _ c.args.word g.J.Number.number c.requires.table.2
          (subst (λ (j : ℕ). j < length qs) pick c.requires.quorum.0)
          (subst (λ (j : ℕ). HoldsAll (quorum_at qs j) c.args.seat.now.me.0.held) pick c.requires.quorum.1),
    )
