use Rattle.std.proofs.Common.{◌≡◌, ◌++◌, string_bytes, take}
use Rattle.std.specs.List.{flat_map}
use Rattle.show_faults.specs.Texts.{title_line}
use Rattle.show_faults.proofs.page.push_titles.Given as goal

-- what was appended so far is behind what there was
abbrev pub invariant-loop-explanation : goal.invariant-loop-explanation
invariant-loop-explanation l = string_bytes l.text ≡ string_bytes l.fn.text ++ flat_map title_line (take l.explanation-index l.explanations)
