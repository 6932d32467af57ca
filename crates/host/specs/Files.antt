-- Which words of a command line name files, and how their texts become one input.
use Rattle.std.specs.Prelude.{ℕ, zero, suc, ◌-◌, if◌then◌else◌, ◌==◌, List, [], ◌∷◌, ◌++◌, length, bytes_eq, codes, Option, None, Some, slice_get}
use Rattle.host.specs.declared.line.Awaited.{Awaited}
use Rattle.host.specs.declared.line.Awaited.TheVariants.{Any, File, Word}

-- what the next word is, after this one
abbrev pub awaited_after : Awaited → List ℕ → Awaited
awaited_after Any word = if bytes_eq word (codes "--") then Word else if bytes_eq word (codes "-f") then File else Any
awaited_after File word = Any
awaited_after Word word = Word

-- the word, if it is one of the command
abbrev pub word_of : Awaited → List ℕ → List (List ℕ)
word_of Any word = if bytes_eq word (codes "-f") then [] else word ∷ []
word_of File word = []
word_of Word word = word ∷ []

-- the word, if it is the name of a file
abbrev pub file_of : Awaited → List ℕ → List (List ℕ)
file_of Any word = []
file_of File word = word ∷ []
file_of Word word = []

-- the words of the command among those that are left; a last word `-f` is one too
abbrev pub words_from : Awaited → List (List ℕ) → List (List ℕ)
words_from File [] = codes "-f" ∷ []
words_from awaited [] = []
words_from awaited (word ∷ words) = word_of awaited word ++ words_from (awaited_after awaited word) words

-- the names of files among those that are left
abbrev pub files_from : Awaited → List (List ℕ) → List (List ℕ)
files_from awaited [] = []
files_from awaited (word ∷ words) = file_of awaited word ++ files_from (awaited_after awaited word) words

-- the words of the command: all but each `-f` and the name behind it, as far as the word `--`
abbrev pub words_in : List (List ℕ) → List (List ℕ)
words_in words = words_from Any words

-- the names of the files: the words behind `-f`, as far as the word `--`
abbrev pub files_in : List (List ℕ) → List (List ℕ)
files_in words = files_from Any words

-- a newline, if this last byte of a text is none
abbrev pub end_behind : Option ℕ → List ℕ
end_behind None = []
end_behind (Some byte) = if byte == 10 then [] else codes "\n"

-- what ends the last line of a text
abbrev pub line_end : List ℕ → List ℕ
line_end text = end_behind (slice_get text (length text - 1))

-- the input so far and the text of the file with this number, which is a new part
abbrev pub with_part : ℕ → List ℕ → List ℕ → List ℕ
with_part zero input part = input ++ part
with_part (suc n) input part = ((input ++ line_end input) ++ codes "%%\n") ++ part
