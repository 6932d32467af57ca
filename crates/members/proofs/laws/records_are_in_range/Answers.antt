use Rattle.quorum_set.specs.declared.bridge.Side.TheVariants.{First, Second}
use Rattle.members.proofs.RecordLemmas.{draws_in_range, passes_in_range, quorums_in_range}
use Rattle.members.proofs.laws.records_are_in_range.Goals as goal

pub returns-clause-draws : goal.returns-clause-draws
returns-clause-draws c = λ cluster members r is plan of. draws_in_range c.tickets_name_quorums.ensures cluster First members r.draws.items is plan of.first

pub returns-clause-draws2 : goal.returns-clause-draws2
returns-clause-draws2 c = λ cluster members r is plan of. draws_in_range c.tickets_name_quorums.ensures cluster Second members r.draws2.items is plan of.second

pub returns-clause-quorums : goal.returns-clause-quorums
returns-clause-quorums c = λ cluster members r is plan of. quorums_in_range c.tickets_name_quorums.ensures cluster First members r.draws.items is plan of.first

pub returns-clause-quorums2 : goal.returns-clause-quorums2
returns-clause-quorums2 c = λ cluster members r is plan of. quorums_in_range c.tickets_name_quorums.ensures cluster Second members r.draws2.items is plan of.second

pub returns-clause-passes : goal.returns-clause-passes
returns-clause-passes c = passes_in_range
