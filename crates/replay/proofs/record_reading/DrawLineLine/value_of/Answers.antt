use Rattle.std.proofs.Common.{arith, rules}
use Rattle.texts.proofs.LineLemmas.{three_numbers}
use Rattle.replay.proofs.record_reading.DrawLineLine.value_of.Goals as goal

pub returns-in-len3-clause-text : goal.returns-in-len3-clause-text
returns-in-len3-clause-text c = record { fits = search rules; word_is = search rules; numbers_are = three_numbers c.args.numbers.now (omega arith) }
