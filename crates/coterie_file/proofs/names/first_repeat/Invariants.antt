use Rattle.std.proofs.Common.{◌≡◌, []}
use Rattle.coterie_file.specs.Names.{first_repeat}
use Rattle.coterie_file.proofs.NameLemmas.{texts_before, texts_from}
use Rattle.coterie_file.proofs.names.first_repeat.Given as goal

abbrev pub invariant-loop-i : goal.invariant-loop-i
invariant-loop-i l = first_repeat (texts_before l.names l.i) (texts_from l.names l.i) ≡ first_repeat [] (texts_from l.names 0)
