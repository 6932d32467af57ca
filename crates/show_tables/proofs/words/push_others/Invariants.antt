use Rattle.std.proofs.Common.{◌≡◌, ◌++◌, codes, map, string_bytes, take}
use Rattle.std.specs.List.{flat_map}
use Rattle.show_tables.specs.Words.{spaced, spaced_text}
use Rattle.show_tables.proofs.words.push_others.Given as goal

-- the texts so far
abbrev pub invariant-loop-placed : goal.invariant-loop-placed
invariant-loop-placed l = string_bytes l.text ≡ string_bytes l.fn.text ++ flat_map (λ s. codes "  " ++ spaced_text s) (map spaced (take l.placed-index l.others))
