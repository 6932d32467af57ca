use Rattle.std.proofs.Common.{◌≡◌, ◌-◌, length}
use Rattle.commands.specs.Parts.{first_mark, is_mark, least_from}
use Rattle.commands.proofs.parts.mark_in.Given as goal

abbrev pub invariant-loop-place : goal.invariant-loop-place
invariant-loop-place l = least_from l.place (length l.input - l.place) (is_mark l.input) ≡ first_mark l.input
