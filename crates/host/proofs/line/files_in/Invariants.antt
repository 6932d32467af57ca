use Rattle.std.proofs.Common.{◌≡◌, ◌++◌, map, drop, string_bytes}
use Rattle.host.specs.Files.{files_from, files_in}
use Rattle.host.proofs.line.files_in.Given as goal

-- the files so far, and then those among the rest, are all
abbrev pub invariant-loop-word : goal.invariant-loop-word
invariant-loop-word l = map string_bytes l.files.items ++ files_from l.awaited (map string_bytes (drop l.word-index l.line)) ≡ files_in (map string_bytes l.line)
