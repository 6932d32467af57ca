use Rattle.std.proofs.Common.{◌≡◌, map, string_bytes, take}
use Rattle.show_failures.proofs.without.voter_names.Given as goal

-- the names of the voters so far
abbrev pub invariant-loop-voter : goal.invariant-loop-voter
invariant-loop-voter l = map string_bytes l.names.items ≡ take l.voter l.named.names
