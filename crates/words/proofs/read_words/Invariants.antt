use Rattle.std.proofs.Common.{◌≡◌, ◌*◌, take}
use Rattle.arrayvec.specs.ArrayVec.{array_vec_len}
use Rattle.words.specs.WordBytes.{FitIn64Bits, bytes_of}
use Rattle.words.proofs.read_words.Given as goal

abbrev pub invariant-loop-i : goal.invariant-loop-i
invariant-loop-i g l = record {
  heard : bytes_of l.words.items ≡ take (8 * l.i) l.bytes;
  fit : FitIn64Bits l.words.items;
  len : array_vec_len l.words ≡ l.i;
}
