use Rattle.std.proofs.Common.{◌≡◌, map, take, string_bytes}
use Rattle.coterie_file.specs.Reading.{quorum_of}
use Rattle.coterie_file.proofs.reading.sets_of.Given as goal

abbrev pub invariant-loop-members : goal.invariant-loop-members
invariant-loop-members l =
    l.sets.items ≡ map (λ q. quorum_of (map (λ k. k.now) l.voters.keys) (map string_bytes q.items)) (take l.members-index l.quorums)
