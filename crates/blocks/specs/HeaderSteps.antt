-- What the calls of a header return and write. Each is said for the one header that the bytes begin with.
use Rattle.std.specs.Prelude.{ℕ, ℤ, ◌≡◌, ◌≢◌, ◌<◌, ◌≤◌, ◌+◌, ◌-◌, ◌++◌, List, [], ◌∷◌, drop, length, Option, Some, None, if◌then◌else◌, ◌==◌}
use Rattle.envelope.specs.Headers.{Head, HasLine, IsMessage, head_line, name_at}
use Rattle.envelope.specs.declared.header.Sender.{Sender}
use Rattle.envelope.specs.declared.header.Sender.TheVariants.{Client, Voter, Operator}
use Rattle.blocks.specs.Numbers.{done, refused}
use Rattle.blocks.specs.declared.refusal.Refusal.TheVariants.{BadArgument, BadMessage, NoRoom}

-- how many words a header has that was read
abbrev pub header_words : ℕ
header_words = 13

-- the kind of a sender, a letter, and its numbers: 99 is c, 118 is v, and 111 is o
abbrev pub words_of_sender : Sender → List ℕ
words_of_sender (Client number epoch reserved seq) = 99 ∷ number ∷ epoch ∷ reserved ∷ seq ∷ []
words_of_sender (Voter number run start lapses) = 118 ∷ number ∷ run ∷ start ∷ lapses ∷ []
words_of_sender Operator = 111 ∷ 0 ∷ 0 ∷ 0 ∷ 0 ∷ []

-- the words of a header: its sender, its level, where each of its names is and how long it is, and where the lines begin
abbrev pub words_of_header : Head → ℕ → List ℕ
words_of_header h lines_at =
    words_of_sender h.sender ++ h.level ∷ 7 ∷ length h.cluster ∷ (8 + length h.cluster) ∷ length h.coterie ∷ name_at h ∷ length h.name ∷ lines_at ∷ []

-- the bytes begin with no header
abbrev pub HasNoHeader : List ℕ → Type 0
HasNoHeader message = (h : Head) (ignored lines : List ℕ) → IsMessage message h ignored lines → ⊥

-- the header of a message is read
pub record HeaderIsRead (message before after : List ℕ) (result : ℤ) : Type 0 where
  pub bad_argument : length before ≢ header_words → result ≡ refused BadArgument
  pub bad_message : length before ≡ header_words → HasNoHeader message → result ≡ refused BadMessage
  pub read : length before ≡ header_words → (h : Head) (ignored lines : List ℕ) → IsMessage message h ignored lines
      → (result ≡ done) × (after ≡ words_of_header h (length message - length lines))

-- the sender of this kind, with these numbers, if there is one
abbrev pub sender_of : ℕ → ℕ → ℕ → ℕ → ℕ → Option Sender
sender_of kind id first second third =
    if kind == 99 then Some (Client id first second third) else
    if kind == 118 then Some (Voter id first second third) else
    if kind == 111 then Some Operator else None

-- the line of a header is written
pub record WritesHead (h : Head) (before after : List ℕ) (written : ℕ) (result : ℤ) : Type 0 where
  pub bad_argument : (HasLine h → ⊥) → result ≡ refused BadArgument
  pub no_room : HasLine h → length before < length (head_line h) → result ≡ refused NoRoom
  pub sent : HasLine h → length (head_line h) ≤ length before
      → (result ≡ done) × (after ≡ head_line h ++ drop (length (head_line h)) before) × (written ≡ length (head_line h))

-- The sender is there, and the header with it has a line: if the line fits, it is at the front of `out`, whose other bytes stay.
abbrev pub WritesHeader : Option Sender → List ℕ → List ℕ → List ℕ → ℕ → List ℕ → List ℕ → ℕ → ℤ → Type 0
WritesHeader None cluster coterie name level before after written result = result ≡ refused BadArgument
WritesHeader (Some sender) cluster coterie name level before after written result =
    WritesHead (record { cluster = cluster; coterie = coterie; sender = sender; name = name; level = level }) before after written result
