use Rattle.std.proofs.Common.{◌≡◌, ◌++◌, string_bytes, take}
use Rattle.std.specs.List.{flat_map}
use Rattle.show_faults.specs.Pages.{section_lines}
use Rattle.show_faults.proofs.page.push_section_titles.Given as goal

-- what was appended so far is behind what there was
abbrev pub invariant-loop-section : goal.invariant-loop-section
invariant-loop-section l = string_bytes l.text ≡ string_bytes l.fn.text ++ flat_map section_lines (take l.section-index l.sections)
