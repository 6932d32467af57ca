-- The header of a message: a line of words, with one space between any two.
use Rattle.std.specs.Prelude.{ℕ, ◌≡◌, ◌≢◌, ◌<◌, ◌≤◌, ◌+◌, ◌-◌, ◌^◌, ◌++◌, ◌∷◌, ◌==◌, codes, List, [], drop, length, take, Option, Some, None, option_map, if◌then◌else◌}
use Rattle.std.specs.List.{AllByRecursion}
use Rattle.std.specs.Fmt.{decimal}
use Rattle.texts.specs.Cuts.{cut_at}
use Rattle.texts.specs.Fields.{HasNoSpace}
use Rattle.envelope.specs.Names.{IsName}
use Rattle.envelope.specs.declared.header.Sender.{Sender}
use Rattle.envelope.specs.declared.header.Sender.TheVariants.{Client, Voter, Operator}
use Rattle.line_words.specs.Lines.{spaced}

-- who sends a message
pub record Head : Type 0 where
  -- the name of the cluster, and the mark of its coterie
  pub cluster : List ℕ
  pub coterie : List ℕ
  -- what the sender is, and its numbers
  pub sender : Sender
  -- the name of a session or a question, or a voter's identity
  pub name : List ℕ
  -- the cluster's level, 0 if there is none
  pub level : ℕ

-- the words of a sender with this name
abbrev pub sender_words : Sender → List ℕ → List (List ℕ)
sender_words (Client number epoch reserved seq) name =
    codes "c" ∷ decimal number ∷ decimal epoch ∷ decimal reserved ∷ name ∷ decimal seq ∷ []
sender_words (Voter number run start lapses) name =
    codes "v" ∷ decimal number ∷ decimal run ∷ decimal start ∷ name ∷ decimal lapses ∷ []
sender_words Operator name = codes "o" ∷ name ∷ []

-- the word of a level; a level of 0 has none
abbrev pub level_words : ℕ → List (List ℕ)
level_words level = if level == 0 then [] else (codes "level=" ++ decimal level) ∷ []

-- the header's words, and then a text
abbrev pub head_then : Head → List ℕ → List ℕ
head_then h rest =
    codes "qlock2" ++ spaced (h.cluster ∷ h.coterie ∷ []) (spaced (sender_words h.sender h.name) (spaced (level_words h.level) rest))

-- the number of a client or a voter is at most 63, and each other number is below 2^64
abbrev pub NumbersFit : Sender → Type 0
NumbersFit (Client number epoch reserved seq) = (number ≤ 63) × (epoch < 2 ^ 64) × (reserved < 2 ^ 64) × (seq < 2 ^ 64)
NumbersFit (Voter number run start lapses) = (number ≤ 63) × (run < 2 ^ 64) × (start < 2 ^ 64) × (lapses < 2 ^ 64)
NumbersFit Operator = Unit {0}

-- the header has a line
pub record HasLine (h : Head) : Type 0 where
  pub cluster : IsName h.cluster
  pub coterie : IsName h.coterie
  pub name : IsName h.name
  pub numbers : NumbersFit h.sender
  pub level : h.level < 2 ^ 64

-- the header's line, with its newline
abbrev pub head_line : Head → List ℕ
head_line h = head_then h (10 ∷ [])

-- the key of a word KEY=VALUE: what is in front of its first `=`, which is 61
abbrev pub key_of : List ℕ → Option (List ℕ)
key_of word = option_map (λ x. x.0) (cut_at 61 word)

-- a key that a reader ignores
abbrev pub IsOther : Option (List ℕ) → Type 0
IsOther None = ⊥
IsOther (Some key) = (0 < length key) × (key ≢ codes "level")

-- a word that a reader ignores: KEY=VALUE, where the key is not `level`
abbrev pub IsIgnored : List ℕ → Type 0
IsIgnored word = HasNoSpace word × IsOther (key_of word)

-- what may be behind the header's own words in its line: any number of words that a reader ignores
abbrev pub AreIgnored : List ℕ → Type 0
AreIgnored tail = (words : List (List ℕ)) × AllByRecursion IsIgnored words × (tail ≡ spaced words [])

-- The text is a message with this header: its first line, of at most 512 bytes, is the header's words and words that a
-- reader ignores. The lines behind it follow.
pub record IsMessage (text : List ℕ) (h : Head) (ignored lines : List ℕ) : Type 0 where
  pub has_line : HasLine h
  pub others : AreIgnored ignored
  pub first_line : cut_at 10 text ≡ Some (head_then h ignored, lines)
  pub short : length (head_then h ignored) ≤ 512

-- the words of a sender in front of its name
abbrev pub words_before_name : Sender → List (List ℕ)
words_before_name (Client number epoch reserved seq) = codes "c" ∷ decimal number ∷ decimal epoch ∷ decimal reserved ∷ []
words_before_name (Voter number run start lapses) = codes "v" ∷ decimal number ∷ decimal run ∷ decimal start ∷ []
words_before_name Operator = codes "o" ∷ []

-- where the name begins in the header's line
abbrev pub name_at : Head → ℕ
name_at h = length (codes "qlock2" ++ spaced (h.cluster ∷ h.coterie ∷ words_before_name h.sender) (32 ∷ []))

-- the bytes of a text at this place
abbrev pub part : ℕ → ℕ → List ℕ → List ℕ
part at len text = take len (drop at text)

-- The names of a header are at these places of its message, and the lines behind its first line are at its end.
pub record ArePlaces (text : List ℕ) (h : Head) (lines : List ℕ) : Type 0 where
  pub cluster : part 7 (length h.cluster) text ≡ h.cluster
  pub coterie : part (8 + length h.cluster) (length h.coterie) text ≡ h.coterie
  pub name : part (name_at h) (length h.name) text ≡ h.name
  pub lines_fit : length lines ≤ length text
  pub lines_are : drop (length text - length lines) text ≡ lines
