-- Texts of stories: those of scripts, with notes between the lines. A note is an empty line, or one that
-- begins with `#`.
use Rattle.std.specs.Prelude.{ℕ, ◌≡◌, ◌+◌, ◌-◌, ◌==◌, Bool, false, not, List, [], ◌∷◌, ◌++◌, if◌then◌else◌}
use Rattle.std.specs.List.{flat_map}
use Rattle.replay.specs.Scripts.{Script, script_text}
use Rattle.replay.specs.Scripts as scripts
use Rattle.replay.specs.declared.fault.ReplayFault.{ReplayFault}
use Rattle.replay.specs.declared.fault.ReplayFault.TheVariants.{BadLine, OutOfMemory}
use Rattle.stories.specs.Turns.{turn_form}
use Rattle.stories.specs.declared.turn.Turn.{Turn}

-- Lines

-- with this byte in front: of the first line, or of what is left if there is no line
abbrev pub with_byte : ℕ → List (List ℕ) → List ℕ → List (List ℕ) × List ℕ
with_byte b [] rest = ([], b ∷ rest)
with_byte b (line ∷ lines) rest = ((b ∷ line) ∷ lines, rest)

-- the lines of a text without their newlines, and what follows the last newline; 10 is a newline
abbrev pub cut_lines : List ℕ → List (List ℕ) × List ℕ
cut_lines [] = ([], [])
cut_lines (b ∷ bs) =
    if b == 10 then ([] ∷ (cut_lines bs).0, (cut_lines bs).1) else with_byte b (cut_lines bs).0 (cut_lines bs).1

-- Notes

-- the line is no note: it is not empty, and does not begin with `#`
abbrev pub is_plain : List ℕ → Bool
is_plain [] = false
is_plain (b ∷ bs) = not (b == 35)

-- what is kept of a line: nothing of a note, and else the line and its newline
abbrev pub kept : List ℕ → List ℕ
kept line = if is_plain line then line ++ 10 ∷ [] else []

-- the text without its notes: what is kept of its lines, and what follows the last newline
abbrev pub without_notes : List ℕ → List ℕ
without_notes text = flat_map kept (cut_lines text).0 ++ (cut_lines text).1

-- one less, unless the line is a note
abbrev pub left_behind : List ℕ → ℕ → ℕ
left_behind line left = if is_plain line then left - 1 else left

-- the place, from 1, of the line that has this number, from 1, without notes; or of what follows the lines
abbrev pub place_of : List (List ℕ) → ℕ → ℕ
place_of [] number = 1
place_of (line ∷ lines) number =
    if left_behind line number == 0 then 1 else place_of lines (left_behind line number) + 1

-- without notes, the text is that of this script
abbrev pub IsTextOf : List ℕ → Script Turn → Type 0
IsTextOf text s = without_notes text ≡ script_text turn_form s

-- The number, from 1, of the first line that is bad without notes: it is malformed, has no newline, or
-- is missing.
abbrev pub IsFirstBad : List ℕ → ℕ → Type 0
IsFirstBad text line =
    (number : ℕ) × scripts.IsFirstBad turn_form (without_notes text) number × (line ≡ place_of (cut_lines text).0 number)

-- the fault is the text's first bad line, or memory ran out
abbrev pub IsBadText : List ℕ → ReplayFault → Type 0
IsBadText text (BadLine line) = IsFirstBad text line
IsBadText text OutOfMemory = Unit {0}
IsBadText text fault = ⊥
