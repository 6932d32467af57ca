use Rattle.std.proofs.Common.{◌≡◌, drop, map}
use Rattle.coterie_file.specs.Names.{has_name}
use Rattle.show_failures.proofs.names.has_word.Given as goal

-- the name is among the words from here on, or not, as it is among all
abbrev pub invariant-loop-word : goal.invariant-loop-word
invariant-loop-word g l = has_name (map g.S.AsStr.text (drop l.word-index l.words)) l.name ≡ has_name (map g.S.AsStr.text l.words) l.name
