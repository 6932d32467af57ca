-- A watched reader or writer, as contracts see it.
use Rattle.std.specs.Prelude.{Bool}

-- a reader or a writer, and whether one of its calls has failed
pub record Watching (T : Type 0) : Type 0 where
  pub inner : T
  pub failed : Bool
