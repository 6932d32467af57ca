use Rattle.qlock_cli.proofs.SoundRecords.{IsSoundRecord-first, IsSoundRecord-second}
use Rattle.qlock_cli.proofs.laws.records_of_runs_are_sound.Goals as goal

pub returns-clause-first : goal.returns-clause-first
returns-clause-first c = IsSoundRecord-first

pub returns-clause-second : goal.returns-clause-second
returns-clause-second c = IsSoundRecord-second
