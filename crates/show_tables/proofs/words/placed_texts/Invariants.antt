use Rattle.std.proofs.Common.{◌≡◌, map, string_bytes, take}
use Rattle.show_tables.proofs.words.placed_texts.Given as goal

-- the texts so far
abbrev pub invariant-loop-column : goal.invariant-loop-column
invariant-loop-column l = map (λ p. p.text.now) l.placed.items ≡ map string_bytes (take l.column l.texts)
