use Rattle.std.proofs.Common.{◌≡◌, map, take}
use Rattle.show_failures.specs.Names.{names_of}
use Rattle.show_failures.proofs.names.names_of.Given as goal

-- the names of the voters so far
abbrev pub invariant-loop-voter : goal.invariant-loop-voter
invariant-loop-voter l = map (λ n. n.now) l.names.items ≡ names_of l.named.names (take l.voter-index l.voter-items)
