use Rattle.std.proofs.Common.{arith, rules}
use Rattle.texts.proofs.LineLemmas.{two_numbers}
use Rattle.replay.proofs.reading.WorldLineLine.value_of.Goals as goal

pub returns-in-len2-clause-text : goal.returns-in-len2-clause-text
returns-in-len2-clause-text c = record { fits = search rules; word_is = search rules; numbers_are = two_numbers c.args.numbers.now (omega arith) }
