use Rattle.std.proofs.Common.{sym, ap, ◌∙◌}
use Rattle.quorum_set.specs.Capacities.{are_unit}
use Rattle.certificate.proofs.FaultLaws.{balance_fault-unit}
use Rattle.certificate.proofs.sums.balance_fault.Goals as goal

pub returns-then-are_unit : goal.returns-then-are_unit
returns-then-are_unit c = λ w same weights sums.
    balance_fault-unit w c.args.sums.now weights sums (ap are_unit same ∙ sym c.are_unit.ensures ∙ c.if-are_unit.true)
