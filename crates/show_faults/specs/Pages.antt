-- The page of all faults, and the list of their lines.
use Rattle.std.specs.Prelude.{◌≡◌, ℕ, List, ◌++◌, codes}
use Rattle.std.specs.List.{flat_map}
use Rattle.show_faults.specs.declared.explanation.Explanation.{Explanation}
use Rattle.show_faults.specs.declared.section.Section.{Section}
use Rattle.show_faults.specs.Codes.{HaveAllCodes}
use Rattle.show_faults.specs.Texts.{text_of, title_line}

-- the entry of a fault in Markdown: its code and its name as a heading, and the text of the
-- explanation in a block
abbrev pub entry_text : Explanation → List ℕ
entry_text e =
    codes "\n### " ++ (e.code.now ++ (codes " " ++ (e.name.now
    ++ (codes "\n\n```\n" ++ (text_of e ++ codes "```\n")))))

-- a section in Markdown: its title as a heading, and the entries of its faults in order
abbrev pub section_text : Section → List ℕ
section_text s = codes "\n## " ++ (s.title.now ++ (codes "\n" ++ flat_map entry_text s.explanations.now))

-- the lines of the faults of a section
abbrev pub section_lines : Section → List ℕ
section_lines s = flat_map title_line s.explanations.now

-- how the page begins
abbrev pub page_head : List ℕ
page_head = codes "# Faults\n\nWhat each fault means, an example, and what usually leads to it. `qlock-show explain all`\nwrites this page.\n"

-- the page has a section for each kind of fault, and in them an entry for each code, in the order of
-- the codes
pub record IsFaultsPage (page : List ℕ) : Type 0 where
  pub sections : List Section
  pub all : HaveAllCodes sections
  pub is : page ≡ page_head ++ flat_map section_text sections

-- the list has a line for each code, in the order of the codes
pub record IsFaultsList (list : List ℕ) : Type 0 where
  pub sections : List Section
  pub all : HaveAllCodes sections
  pub is : list ≡ flat_map section_lines sections
