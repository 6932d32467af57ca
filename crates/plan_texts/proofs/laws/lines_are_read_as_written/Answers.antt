use Rattle.std.proofs.lemmas.List.Elements.{All-from_recursion, recursion_from_All}
use Rattle.plan_texts.specs.PlanTexts.{IsShort}
use Rattle.plan_texts.proofs.PlanLines.{read_ratio-Some, read_ratio-written, read_cycle-Some, read_cycle-written, read_capacities-Some, read_capacities-written, read_numbers-Some, read_numbers-written}
use Rattle.plan_texts.proofs.laws.lines_are_read_as_written.Goals as goal

pub returns-clause-ratio : goal.returns-clause-ratio
returns-clause-ratio c = λ word digits line ratio few. (read_ratio-Some word digits line ratio, λ h. read_ratio-written word digits line ratio few h.0 h.1.0 h.1.1)

pub returns-clause-cycle : goal.returns-clause-cycle
returns-clause-cycle c = λ line n. (read_cycle-Some line n, λ h. read_cycle-written line n h.0 h.1)

pub returns-clause-capacities : goal.returns-clause-capacities
returns-clause-capacities c = λ line capacities. (read_capacities-Some line capacities, λ h. read_capacities-written line capacities h.0 h.1.0 h.1.1)

pub returns-clause-weights : goal.returns-clause-weights
returns-clause-weights c = λ word line weights. (
  λ e. (let is = read_numbers-Some word line weights e in (is.0, (All-from_recursion IsShort weights is.1.0, is.1.1))),
  λ h. read_numbers-written word line weights h.0 (recursion_from_All IsShort weights h.1.0) h.1.1,
)
