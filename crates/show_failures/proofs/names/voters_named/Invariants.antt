use Rattle.std.proofs.Common.{◌≡◌, map}
use Rattle.coterie_file.specs.Names.{has_name, name_at}
use Rattle.show_failures.proofs.VoterLemmas.{passing}
use Rattle.show_failures.proofs.names.voters_named.Given as goal

-- the voters so far whose name is one of the words
abbrev pub invariant-loop-voter : goal.invariant-loop-voter
invariant-loop-voter g l = l.voters ≡ passing (λ i. has_name (map g.S.AsStr.text l.words) (name_at l.named.names i)) l.voter
