use Rattle.std.proofs.Common.{◌≡◌, ◌++◌, map, string_bytes, take}
use Rattle.show_command_line.proofs.words.push_texts.Given as goal

-- the texts so far are behind what there was
abbrev pub invariant-loop-i : goal.invariant-loop-i
invariant-loop-i l = map string_bytes l.words.items ≡ map string_bytes l.fn.words.items ++ take l.i (map (λ t. t.now) l.texts)
