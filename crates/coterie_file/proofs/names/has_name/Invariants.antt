use Rattle.std.proofs.Common.{◌≡◌}
use Rattle.coterie_file.specs.Names.{has_name}
use Rattle.coterie_file.proofs.NameLemmas.{texts_from}
use Rattle.coterie_file.proofs.names.has_name.Given as goal

abbrev pub invariant-loop-name : goal.invariant-loop-name
invariant-loop-name l = has_name (texts_from l.names l.name-index) l.text ≡ has_name (texts_from l.names 0) l.text
