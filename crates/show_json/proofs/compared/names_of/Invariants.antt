use Rattle.std.proofs.Common.{◌≡◌, codes, map, string_bytes, take}
use Rattle.std.specs.Prelude.{slice_index_or}
use Rattle.show_json.specs.Values.{quoted}
use Rattle.show_json.proofs.compared.names_of.Given as goal

-- the names of the voters so far
abbrev pub invariant-loop-voter : goal.invariant-loop-voter
invariant-loop-voter l = map string_bytes l.names.items ≡ map (λ i. quoted (slice_index_or l.named.names i (codes "?"))) (take l.voter-index l.voter-items)
