use Rattle.std.proofs.Common.{◌≡◌, map, take, decimal, string_bytes}
use Rattle.coterie_file.proofs.writing.texts_of.Given as goal

abbrev pub invariant-loop-number : goal.invariant-loop-number
invariant-loop-number l = map string_bytes l.texts.items ≡ map decimal (take l.number-index l.numbers)
