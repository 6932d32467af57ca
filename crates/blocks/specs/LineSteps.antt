-- What the calls of lines with the name of a lock return and write. Each is said for the one line that the bytes are, or that they
-- begin with.
use Rattle.std.specs.Prelude.{ℕ, ℤ, ◌≡◌, ◌≢◌, ◌+◌, ◌==◌, List, [], ◌∷◌, length, Option, Some, None, if◌then◌else◌}
use Rattle.envelope.specs.LockLines.{IsFirstLine, IsLockName, LockSaysFits, lock_at, lock_says_line}
use Rattle.envelope.specs.declared.locks.LockSays.{LockSays}
use Rattle.envelope.specs.declared.locks.LockSays.TheVariants.{Gone, Full, Held}
use Rattle.line_words.specs.Lines.{control_line}
use Rattle.blocks.specs.ControlSteps.{WritesLine}
use Rattle.blocks.specs.Numbers.{done, refused}
use Rattle.blocks.specs.declared.refusal.Refusal.TheVariants.{BadArgument, BadMessage}

-- What voters say of a lock, as words: its kind, the stamp and the time, where the lock's name is and how long it is

-- how many words there are
abbrev pub lock_words : ℕ
lock_words = 5

-- with a name of this length; a time that it does not have is 0
abbrev pub words_of_lock : LockSays → ℕ → List ℕ
words_of_lock (Gone stamp) len = 1 ∷ stamp ∷ 0 ∷ lock_at ∷ len ∷ []
words_of_lock (Full stamp) len = 2 ∷ stamp ∷ 0 ∷ lock_at ∷ len ∷ []
words_of_lock (Held stamp milliseconds) len = 3 ∷ stamp ∷ milliseconds ∷ lock_at ∷ len ∷ []

-- what has these words, if anything does
abbrev pub lock_says_of : ℕ → ℕ → ℕ → Option LockSays
lock_says_of kind stamp milliseconds =
    if kind == 1 then Some (Gone stamp) else
    if kind == 2 then Some (Full stamp) else
    if kind == 3 then Some (Held stamp milliseconds) else None

-- the bytes are no such line
abbrev pub IsNoLockLine : List ℕ → Type 0
IsNoLockLine line = (lock : List ℕ) (s : LockSays) → IsLockName lock → LockSaysFits s → line ≡ lock_says_line lock s → ⊥

-- what a voter says of a lock is read
pub record LockSaysIsRead (line before after : List ℕ) (result : ℤ) : Type 0 where
  pub bad_argument : length before ≢ lock_words → result ≡ refused BadArgument
  pub read : length before ≡ lock_words → (lock : List ℕ) (s : LockSays) → IsLockName lock → LockSaysFits s → line ≡ lock_says_line lock s
      → (result ≡ done) × (after ≡ words_of_lock s (length lock))
  pub bad_message : length before ≡ lock_words → IsNoLockLine line → result ≡ refused BadMessage

-- What a voter says of a lock is written. Its numbers are of 64 bits, so it fits if the name is one.
abbrev pub WritesLockSays : Option LockSays → List ℕ → List ℕ → List ℕ → ℕ → ℤ → Type 0
WritesLockSays None lock before after written result = result ≡ refused BadArgument
WritesLockSays (Some s) lock before after written result = WritesLine (IsLockName lock) (control_line (lock_says_line lock s)) before after written result

-- The first line of a text, as words: how long its name is, how long what is behind the space is, and where the text behind the line
-- begins

-- how many words there are
abbrev pub line_words : ℕ
line_words = 3

-- the text begins with no line
abbrev pub HasNoLine : List ℕ → Type 0
HasNoLine text = (name line rest : List ℕ) → IsFirstLine text name line rest → ⊥

-- the first line is cut off
pub record LineIsCut (text before after : List ℕ) (result : ℤ) : Type 0 where
  pub bad_argument : length before ≢ line_words → result ≡ refused BadArgument
  pub cut : length before ≡ line_words → (name line rest : List ℕ) → IsFirstLine text name line rest
      → (result ≡ done) × (after ≡ length name ∷ length line ∷ (length name + length line + 2) ∷ [])
  pub bad_message : length before ≡ line_words → HasNoLine text → result ≡ refused BadMessage

-- whether bytes may name a lock: 1 if they may, and 0 if not
pub record LockNameIsTold (name : List ℕ) (yes : ℕ) (result : ℤ) : Type 0 where
  pub done_always : result ≡ done
  pub is : IsLockName name → yes ≡ 1
  pub is_not : (IsLockName name → ⊥) → yes ≡ 0
