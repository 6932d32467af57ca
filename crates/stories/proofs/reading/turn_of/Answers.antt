use Rattle.stories.proofs.TurnLemmas.{no_step_read}
use Rattle.stories.proofs.reading.turn_of.Goals as goal

pub returns-in-None-clause-read : goal.returns-in-None-clause-read
returns-in-None-clause-read c t h =
    let other = no_step_read t c.args.word.now c.args.number c.value_of.result c.value_of.ensures.read c.in-None.is h in
    c.other_turn_of.ensures.read t other h
