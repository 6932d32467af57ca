use mathlib.Core.Logic.{dite}
use native.Mathlib.Decide.{ℕ_discrete}
use Rattle.board.specs.Quorums.{quorum_at}
use Rattle.board.proofs.Register.{HoldsAll-not_both}
use Rattle.board.proofs.laws.one_client_inside.Goals as goal

pub returns : goal.returns
returns c sheet s meet kept i k u w at at' inside inside' =
    dite (ℕ_discrete i k) (λ same. same)
    (λ apart. absurd (HoldsAll-not_both sheet s kept i k u w apart at at' (quorum_at sheet.quorums inside.0) (quorum_at sheet.quorums inside'.0)
    (meet inside.0 inside'.0 inside.1 inside'.1) inside.2 inside'.2))
