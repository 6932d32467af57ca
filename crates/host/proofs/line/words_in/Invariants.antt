use Rattle.std.proofs.Common.{◌≡◌, ◌++◌, map, drop, string_bytes}
use Rattle.host.specs.Files.{words_from, words_in}
use Rattle.host.proofs.line.words_in.Given as goal

-- the words so far, and then those among the rest, are all
abbrev pub invariant-loop-word : goal.invariant-loop-word
invariant-loop-word l = map string_bytes l.words.items ++ words_from l.awaited (map string_bytes (drop l.word-index l.line)) ≡ words_in (map string_bytes l.line)
