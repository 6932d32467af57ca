use Rattle.std.proofs.Common.{◌≡◌, map, flat_map, string_bytes}
use Rattle.show_faults.specs.Texts.{indented_line}
use Rattle.show_faults.proofs.text.indented.Given as goal

abbrev pub invariant-loop-line : goal.invariant-loop-line
invariant-loop-line l = string_bytes l.out ≡ flat_map indented_line (map (λ x. x.now) l.yielded)
