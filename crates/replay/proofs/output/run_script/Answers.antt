use Rattle.replay.specs.Scripts.{step_form}
use Rattle.replay.proofs.Readings.{script_begins}
use Rattle.replay.proofs.output.run_script.Goals as goal

pub returns-clause-first : goal.returns-clause-first
returns-clause-first c = λ none. let read = c.in-Ok.ensures.written in absurd (none (script_begins step_form c.args.text.now c.in-Ok.script read.0 read.1))
