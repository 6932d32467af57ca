-- Tables in words: a line for each row, with spaces between the texts of its cells.
use Rattle.std.specs.Prelude.{◌≡◌, ℕ, List, [], ◌∷◌, ◌++◌, codes, map, replicate, string_bytes}
use Rattle.std.specs.List.{flat_map}
use Rattle.show_tables.specs.Cells.{cell_text}
use Rattle.show_tables.specs.declared.table.Column.{Column}
use Rattle.show_tables.specs.declared.table.Table.{Table}
use Rattle.show_tables.specs.declared.words.Placed.{Placed}

-- a text, and how many spaces are before it
pub record Spaced : Type 0 where
  pub spaces : ℕ
  pub text : List ℕ

-- the spaces and the text
abbrev pub spaced_text : Spaced → List ℕ
spaced_text s = replicate s.spaces 32 ++ s.text

-- a line: the first text, the others, each with two spaces more, and a newline
abbrev pub line_text : List Spaced → List ℕ
line_text [] = 10 ∷ []
line_text (first ∷ others) = spaced_text first ++ (flat_map (λ s. codes "  " ++ spaced_text s) others ++ 10 ∷ [])

-- a line of these texts in order was added, with spaces between them and nothing else
pub record AddsLine (texts : List (List ℕ)) (old new : List ℕ) : Type 0 where
  pub line : List Spaced
  pub texts_are : map (λ s. s.text) line ≡ texts
  pub is : new ≡ old ++ line_text line

-- a line was added for each of these rows of texts, in order, and nothing else
pub record AddsLines (rows : List (List (List ℕ))) (old new : List ℕ) : Type 0 where
  pub lines : List (List Spaced)
  pub texts_are : map (λ line. map (λ s. s.text) line) lines ≡ rows
  pub is : new ≡ old ++ flat_map line_text lines

-- the titles of columns
abbrev pub titles_of : List Column → List (List ℕ)
titles_of columns = map (λ column. string_bytes column.title) columns

-- the texts of the cells of a table, row by row; the titles are the first row
abbrev pub texts_of : Table → List (List (List ℕ))
texts_of table = titles_of table.columns.items ∷ map (λ row. map cell_text row.items) table.rows.items

-- the text is the table in words: its lines in order, with the texts of their cells in order
abbrev pub IsWordsTable : Table → List ℕ → Type 0
IsWordsTable table text = AddsLines (texts_of table) [] text

-- a text that is placed, as one with spaces
abbrev pub spaced : Placed → Spaced
spaced placed = record { spaces = placed.spaces; text = placed.text.now }
