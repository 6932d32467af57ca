use Rattle.std.proofs.Common.{arith, rules}
use Rattle.std.proofs.lemmas.List.{nil_from_length}
use Rattle.stories.proofs.reading.TurnLineLine.value_of.Goals as goal

pub returns-in-empty-clause-text : goal.returns-in-empty-clause-text
returns-in-empty-clause-text c = record { fits = search rules; word_is = search rules; numbers_are = nil_from_length c.args.numbers.now (omega arith) }
