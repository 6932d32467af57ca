use Rattle.std.proofs.Common.{◌∙◌, w32}
use Rattle.std.proofs.lemmas.Int.{to_z-of_z}
use Rattle.qlock_c.proofs.CallLemmas.{refused_by}
use Rattle.qlock_c.proofs.row_calls.qlock_row_reserve.Goals as goal

pub returns-clause-refused : goal.returns-clause-refused
returns-clause-refused c = refused_by c.reserve.result _ _ (to_z-of_z w32 c.number_of.result (record { sfits = c.number_of.type_inv }) ∙ c.number_of.ensures.number) c.reserve.ensures.refused
