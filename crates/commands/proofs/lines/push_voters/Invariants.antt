use Rattle.std.proofs.Common.{◌≡◌, ◌++◌, string_bytes, slice_index}
use Rattle.std.specs.List.{flat_map, range_with_len}
use Rattle.coterie_file.specs.Names.{name_at}
use Rattle.commands.specs.Commands.{voter_line}
use Rattle.commands.proofs.lines.push_voters.Given as goal

abbrev pub invariant-loop-i : goal.invariant-loop-i
invariant-loop-i l = string_bytes l.text ≡ string_bytes l.fn.text ++ flat_map (λ i. voter_line (name_at l.named.names i) (slice_index l.counts i)) (range_with_len 0 l.i)
