-- Runs of a plan's lock. What their records are is defined in `replay`, and why a run has none in `run_outcome`.
pub use Rattle.replay.specs.Runs.{AreLet, IsRun}
pub use Rattle.run_outcome.specs.Refusals.{EndsRun, EndsRunBy, run_refusal}
