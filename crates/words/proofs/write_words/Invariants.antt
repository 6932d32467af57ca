use Rattle.std.proofs.Common.{◌≡◌, ◌*◌, length, take}
use Rattle.words.specs.WordBytes.{FitIn64Bits, bytes_of}
use Rattle.words.proofs.write_words.Given as goal

abbrev pub invariant-loop-i : goal.invariant-loop-i
invariant-loop-i l = record {
  heard : take (8 * l.i) l.bytes ≡ bytes_of (take l.i l.words);
  fit : FitIn64Bits (take l.i l.words);
  len : length l.bytes ≡ length l.fn.bytes;
}
