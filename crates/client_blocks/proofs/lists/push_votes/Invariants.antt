use Rattle.std.proofs.Common.{◌≡◌, ◌*◌, take}
use Rattle.arrayvec.specs.ArrayVec.{array_vec_len}
use Rattle.client_blocks.specs.Bytes.{votes_words}
use Rattle.client_blocks.proofs.lists.push_votes.Given as goal

abbrev pub invariant-loop-vote : goal.invariant-loop-vote
invariant-loop-vote l = record {
  numbers : l.words.items ≡ votes_words (take l.vote-index l.votes);
  len : array_vec_len l.words ≡ 9 * l.vote-index;
}
