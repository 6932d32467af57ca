use Rattle.std.proofs.Common.{inl, inr}
use Rattle.leases.proofs.PassLemmas.{refused}
use Rattle.leases.proofs.in_order.late_passes_are_refused.Goals as goal

pub returns : goal.returns
returns c voters clients limit quorums deal before after first second seen limits meets deals in_first in_second has =
    elim (c.later_passes_are_newer.ensures voters clients limit quorums deal before after first second limits meets deals in_first in_second) [
      | inl same ↦ inl same
      | inr newer ↦ inr (refused _ _ seen newer has)
    ]
