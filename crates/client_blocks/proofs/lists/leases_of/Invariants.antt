use Rattle.std.proofs.Common.{◌≡◌, ◌*◌, List, length, take}
use Rattle.vote_leases.specs.declared.lease.VoterLease.{VoterLease}
use Rattle.client_blocks.specs.Bytes.{leases_words}
use Rattle.client_blocks.proofs.lists.leases_of.Given as goal

abbrev pub invariant-loop-place : goal.invariant-loop-place
invariant-loop-place l = record {
  text : leases_words (take l.place l.leases) ≡ take (5 * l.place) l.words;
  read : (xs : List VoterLease) → length xs ≡ 64 → l.words ≡ leases_words xs → take l.place l.leases ≡ take l.place xs;
  places : length l.leases ≡ 64;
}
