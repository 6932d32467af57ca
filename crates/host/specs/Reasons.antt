-- Why the system did not open or read a file.
use Rattle.std.specs.declared.io.ErrorKind.{ErrorKind}
use Rattle.std.specs.declared.io.ErrorKind.TheVariants as kinds
use Rattle.host.specs.declared.reason.Reason.{Reason}
use Rattle.host.specs.declared.reason.Reason.TheVariants.{Missing, Folder, Forbidden, Other}

-- the reason for an error of this kind
abbrev pub reason_of : ErrorKind → Reason
reason_of kinds.NotFound = Missing
reason_of kinds.IsADirectory = Folder
reason_of kinds.PermissionDenied = Forbidden
reason_of kind = Other
