use Rattle.std.proofs.Common.{◌≡◌, codes, map, take}
use Rattle.std.specs.Prelude.{slice_index_or}
use Rattle.show_compare.proofs.groups.names_of.Given as goal

-- the names of the voters so far
abbrev pub invariant-loop-voter : goal.invariant-loop-voter
invariant-loop-voter l = map (λ n. n.now) l.names.items ≡ map (λ i. slice_index_or l.named.names i (codes "?")) (take l.voter-index l.voter-items)
