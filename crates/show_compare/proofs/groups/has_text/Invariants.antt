use Rattle.std.proofs.Common.{◌≡◌, drop, map, string_bytes}
use Rattle.show_compare.specs.Compare.{has_text}
use Rattle.show_compare.proofs.groups.has_text.Given as goal

-- the text is among those from here on, or not, as it is among all
abbrev pub invariant-loop-other : goal.invariant-loop-other
invariant-loop-other l = has_text (map string_bytes (drop l.other-index l.texts)) l.text ≡ has_text (map string_bytes l.texts) l.text
