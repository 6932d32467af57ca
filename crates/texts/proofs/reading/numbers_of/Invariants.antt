use Rattle.std.proofs.Common.{◌≡◌, ◌++◌, ℕ, List, length}
use Rattle.texts.specs.Fields.{AllFit, fields}
use Rattle.texts.proofs.FieldLemmas.{IsLeft}
use Rattle.texts.proofs.reading.numbers_of.Given as goal

abbrev pub invariant-fields : goal.invariant-fields
invariant-fields l = record {
  written : l.bytes ≡ fields l.numbers.items ++ l.rest;
  -- each reading of the bytes begins with the numbers that were found, and the rest is the text of the others
  left : (ns : List ℕ) → AllFit ns → l.bytes ≡ fields ns → (ms : List ℕ) × IsLeft l.numbers.items l.rest ns ms;
}

abbrev pub decreases-fields : goal.decreases-fields
decreases-fields l = length l.rest
