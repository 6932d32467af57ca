use Rattle.std.proofs.Common.{◌≡◌, map, take, string_bytes}
use Rattle.coterie_file.specs.Reading.{quorum_of}
use Rattle.coterie_file.proofs.reading.set_of.Given as goal

abbrev pub invariant-loop-name : goal.invariant-loop-name
invariant-loop-name l = l.set ≡ quorum_of (map (λ k. k.now) l.voters.keys) (map string_bytes (take l.name-index l.members))
