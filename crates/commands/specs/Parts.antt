-- The parts of an input: texts with a line `%%` between them.
use Rattle.std.specs.Prelude.{ℕ, ◌+◌, ◌-◌, ◌==◌, ◌||◌, ◌&&◌, Bool, List, [], ◌∷◌, length, take, drop, Option, None, Some, Result, Ok, Err, nat_eq, slice_index, if◌then◌else◌, zero, suc}
use Rattle.std.specs.List.{starts_with}
use Rattle.command_line.specs.declared.command.Command.{Command}
use Rattle.command_line.specs.declared.command.Command.TheVariants.{Make, Plan, Check, Deal, World, Run, Replay}
use Rattle.commands.specs.declared.fault.Fault.{Fault}
use Rattle.commands.specs.declared.fault.Fault.TheVariants.{MissingPart}

-- how many parts the input of a command of `qlock` has
abbrev pub parts_of : Command → ℕ
parts_of (Make shape) = 0
parts_of Plan = 1
parts_of Check = 2
parts_of (Deal tickets) = 2
parts_of (Run clients passes turns) = 2
parts_of World = 3
parts_of Replay = 3

-- whether a line `%%` begins at place i: at the start or after a newline, and with a newline at its
-- end
abbrev pub is_mark : List ℕ → ℕ → Bool
is_mark text i = ((i == 0) || (slice_index text (i - 1) == 10)) && starts_with nat_eq (drop i text) (37 ∷ 37 ∷ 10 ∷ [])

-- the smallest of the n numbers from low on that passes
abbrev pub least_from : ℕ → ℕ → (ℕ → Bool) → Option ℕ
least_from low zero passes = None
least_from low (suc n) passes = if passes low then Some low else least_from (low + 1) n passes

-- the place where the first line `%%` begins
unfoldable pub first_mark : List ℕ → Option ℕ
first_mark text = least_from 0 (length text) (is_mark text)

-- the part before the mark, and what follows the mark's line; if there is no mark, part k is
-- missing
abbrev pub split_at_mark : ℕ → List ℕ → Option ℕ → Result (List ℕ × List ℕ) Fault
split_at_mark k text None = Err (MissingPart k)
split_at_mark k text (Some i) = Ok (take i text, drop (i + 3) text)

-- the first part, and the parts from number k on
unfoldable pub split : ℕ → List ℕ → Result (List ℕ × List ℕ) Fault
split k text = split_at_mark k text (first_mark text)
