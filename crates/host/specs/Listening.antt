-- A writer whose reader may be gone, as contracts see it.
use Rattle.std.specs.Prelude.{Bool, true}
use Rattle.std.specs.declared.io.ErrorKind.{ErrorKind}
use Rattle.std.specs.declared.io.ErrorKind.TheVariants.{BrokenPipe}

-- a writer, and whether a write or a flush failed since nobody reads
pub record Listening (T : Type 0) : Type 0 where
  pub inner : T
  pub unread : Bool

-- whether nobody reads, after an error of this kind
abbrev pub unread_after : Bool → ErrorKind → Bool
unread_after unread BrokenPipe = true
unread_after unread kind = unread
