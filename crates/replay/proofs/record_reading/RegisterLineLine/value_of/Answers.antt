use Rattle.std.proofs.Common.{arith, rules}
use Rattle.texts.proofs.LineLemmas.{one_number}
use Rattle.replay.proofs.record_reading.RegisterLineLine.value_of.Goals as goal

pub returns-in-len1-clause-text : goal.returns-in-len1-clause-text
returns-in-len1-clause-text c = record { fits = search rules; word_is = search rules; numbers_are = one_number c.args.numbers.now (omega arith) }
