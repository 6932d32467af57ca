use Rattle.std.proofs.Common.{◌≡◌, map, string_bytes, take}
use Rattle.show_tables.specs.Words.{titles_of}
use Rattle.show_tables.proofs.words.titles_of.Given as goal

-- the titles of the columns so far
abbrev pub invariant-loop-column : goal.invariant-loop-column
invariant-loop-column l = map string_bytes l.titles.items ≡ titles_of (take l.column-index l.columns)
