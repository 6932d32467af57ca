use Rattle.std.proofs.Common.{map, take}
use Rattle.command_line.specs.Words.{AreSizes}
use Rattle.command_line.proofs.words.sizes_of.Given as goal

-- the sizes so far are those of the texts so far
abbrev pub invariant-loop-i : goal.invariant-loop-i
invariant-loop-i l = AreSizes (take l.i (map (λ t. t.now) l.texts)) l.sizes.items
