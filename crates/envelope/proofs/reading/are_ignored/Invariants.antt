use Rattle.std.proofs.Common.{length, ◌↔◌}
use Rattle.envelope.specs.Headers.{AreIgnored}
use Rattle.envelope.proofs.reading.are_ignored.Given as goal

-- what was read so far is ignored, so all is if and only if the rest is
abbrev pub invariant-words : goal.invariant-words
invariant-words l = AreIgnored l.fn.bytes ↔ AreIgnored l.rest

abbrev pub decreases-words : goal.decreases-words
decreases-words l = length l.rest
