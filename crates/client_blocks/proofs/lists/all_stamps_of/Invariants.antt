use Rattle.std.proofs.Common.{◌≡◌, ◌*◌, List, length, take}
use Rattle.own_stamps.specs.declared.stamps.OwnStamps.{OwnStamps}
use Rattle.client_blocks.specs.Bytes.{stamps_words}
use Rattle.client_blocks.proofs.lists.all_stamps_of.Given as goal

abbrev pub invariant-loop-place : goal.invariant-loop-place
invariant-loop-place l = record {
  text : stamps_words (take l.place l.kept) ≡ take (4 * l.place) l.words;
  read : (xs : List OwnStamps) → length xs ≡ 64 → l.words ≡ stamps_words xs → take l.place l.kept ≡ take l.place xs;
  places : length l.kept ≡ 64;
}
