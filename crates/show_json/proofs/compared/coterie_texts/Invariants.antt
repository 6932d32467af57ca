use Rattle.std.proofs.Common.{◌≡◌, map, string_bytes, take}
use Rattle.show_compare.specs.Compare.{shown}
use Rattle.show_json.specs.Compared.{coterie_text}
use Rattle.show_json.proofs.compared.coterie_texts.Given as goal

-- the coteries so far
abbrev pub invariant-loop-entry : goal.invariant-loop-entry
invariant-loop-entry l = map string_bytes l.texts.items ≡ map (λ e. coterie_text (shown e)) (take l.entry-index l.entries)
