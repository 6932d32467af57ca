use Rattle.std.proofs.Common.{◌≡◌, ◌++◌, string_bytes, take}
use Rattle.std.specs.List.{flat_map}
use Rattle.show_faults.specs.Pages.{entry_text}
use Rattle.show_faults.proofs.page.push_entries.Given as goal

-- what was appended so far is behind what there was
abbrev pub invariant-loop-explanation : goal.invariant-loop-explanation
invariant-loop-explanation l = string_bytes l.text ≡ string_bytes l.fn.text ++ flat_map entry_text (take l.explanation-index l.explanations)
