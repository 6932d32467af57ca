use Rattle.std.proofs.Common.{◌≡◌, ◌*◌, List, length, take}
use Rattle.vote_leases.specs.declared.vote.Vote.{Vote}
use Rattle.client_blocks.specs.Bytes.{votes_words}
use Rattle.client_blocks.proofs.lists.votes_of.Given as goal

abbrev pub invariant-loop-place : goal.invariant-loop-place
invariant-loop-place l = record {
  text : votes_words (take l.place l.votes) ≡ take (9 * l.place) l.words;
  read : (xs : List Vote) → length xs ≡ 64 → l.words ≡ votes_words xs → take l.place l.votes ≡ take l.place xs;
  places : length l.votes ≡ 64;
}
