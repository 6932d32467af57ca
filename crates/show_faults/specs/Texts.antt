-- The text of an explanation.
use Rattle.std.specs.Prelude.{ℕ, ◌==◌, if◌then◌else◌, List, ◌++◌, length, codes, flat_map}
use Rattle.std.specs.Str.Lines.{lines}
use Rattle.show_faults.specs.declared.explanation.Explanation.{Explanation}

-- the line behind four spaces, and with a newline at its end
abbrev pub indented_line : List ℕ → List ℕ
indented_line line = codes "    " ++ (line ++ codes "\n")

-- the lines of a text, each behind four spaces
abbrev pub indent : List ℕ → List ℕ
indent text = flat_map indented_line (lines text)

-- the line of a fault: its code, its name and, if it has any, the names of its arguments
abbrev pub title_of : Explanation → List ℕ
title_of e =
    if length e.arguments.now == 0
    then e.code.now ++ (codes " " ++ e.name.now)
    else e.code.now ++ (codes " " ++ (e.name.now ++ (codes " " ++ e.arguments.now)))

-- the same with a newline
abbrev pub title_line : Explanation → List ℕ
title_line e = title_of e ++ codes "\n"

-- the title, the meaning, the example and the mistakes
abbrev pub text_of : Explanation → List ℕ
text_of e =
    title_of e ++ (codes "\n\n" ++ (e.meaning.now
    ++ (codes "\n\nFor example:\n" ++ (indent e.example.now
    ++ (codes "\nWhat usually led to it:\n" ++ indent e.mistakes.now)))))
