use Rattle.std.proofs.Common.{◌∙◌}
use Rattle.quorum_set.specs.declared.bridge.Side.TheVariants.{First, Second}
use Rattle.members.proofs.RecordLemmas.{length-draws, register-sum_by, sum_by-evenly}
use Rattle.members.proofs.laws.records_count_passes.Goals as goal

pub returns-clause-draws : goal.returns-clause-draws
returns-clause-draws c = λ cluster members r is. length-draws cluster First members r.draws.items is.first

pub returns-clause-draws2 : goal.returns-clause-draws2
returns-clause-draws2 c = λ cluster members r is. length-draws cluster Second members r.draws2.items is.second

pub returns-clause-passes : goal.returns-clause-passes
returns-clause-passes c = register-sum_by

pub returns-clause-evenly : goal.returns-clause-evenly
returns-clause-evenly c = λ cluster members r n is all. register-sum_by cluster members r is ∙ sum_by-evenly n members all
