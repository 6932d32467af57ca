-- Lines with the name of a lock: what a voter says of one lock, and the lines of a message.
use Rattle.std.specs.Prelude.{ℕ, ◌≡◌, ◌≢◌, ◌<◌, ◌≤◌, ◌^◌, ◌==◌, ◌||◌, Bool, true, false, List, [], ◌∷◌, ◌++◌, codes, drop, length, ◌⊎◌, ◌+◌, Some}
use Rattle.std.specs.List.{AllByRecursion, list_all}
use Rattle.texts.specs.Cuts.{cut_at}
use Rattle.texts.specs.Fields.{fields}
use Rattle.envelope.specs.Headers.{part}
use Rattle.envelope.specs.Names.{is_name_byte}
use Rattle.envelope.specs.declared.locks.LockSays.{LockSays}
use Rattle.envelope.specs.declared.locks.LockSays.TheVariants.{Gone, Full, Held}

-- ---- names of locks

-- a byte of a lock's name: one of A-Z a-z 0-9 _ - . :
abbrev pub is_lock_byte : ℕ → Bool
is_lock_byte b = is_name_byte b || (b == 46) || (b == 58)

-- the first byte is a dot, which is 46
abbrev pub begins_with_dot : List ℕ → Bool
begins_with_dot [] = false
begins_with_dot (b ∷ bs) = b == 46

-- 1 to 64 bytes of a lock's name, with no dot first
pub record IsLockName (name : List ℕ) : Type 0 where
  pub some : 0 < length name
  pub short : length name ≤ 64
  pub bytes : list_all is_lock_byte name ≡ true
  pub first : begins_with_dot name ≡ false

-- ---- what voters say of a lock

abbrev pub lock_word : LockSays → List ℕ
lock_word (Gone stamp) = codes "gone"
lock_word (Full stamp) = codes "full"
lock_word (Held stamp milliseconds) = codes "held"

abbrev pub lock_numbers : LockSays → List ℕ
lock_numbers (Gone stamp) = stamp ∷ []
lock_numbers (Full stamp) = stamp ∷ []
lock_numbers (Held stamp milliseconds) = stamp ∷ milliseconds ∷ []

-- all numbers are below 2^64
abbrev pub LockSaysFits : LockSays → Type 0
LockSaysFits (Gone stamp) = stamp < 2 ^ 64
LockSaysFits (Full stamp) = stamp < 2 ^ 64
LockSaysFits (Held stamp milliseconds) = (stamp < 2 ^ 64) × (milliseconds < 2 ^ 64)

-- The words of a line of control, without the dot in front of them and without the newline: the word, the lock's name, and the
-- numbers, with a space in front of each; 32 is a space.
abbrev pub lock_says_line : List ℕ → LockSays → List ℕ
lock_says_line lock s = lock_word s ++ ((32 ∷ lock) ++ fields (lock_numbers s))

-- The lock's name is there in the line: behind a word of four bytes, and a space.
abbrev pub lock_at : ℕ
lock_at = 5

-- ---- the lines of a message

-- what a line may begin with: a lock's name, or the dot of control
abbrev pub IsLineName : List ℕ → Type 0
IsLineName name = IsLockName name ⊎ (name ≡ codes ".")

-- no byte is a newline, which is 10
abbrev pub HasNoNewline : List ℕ → Type 0
HasNoNewline bytes = AllByRecursion (λ b. b ≢ 10) bytes

-- a line with its name: one space between them, and a newline at the end
abbrev pub named_line : List ℕ → List ℕ → List ℕ
named_line name line = name ++ ((32 ∷ line) ++ 10 ∷ [])

-- The text begins with the line `NAME LINE`: its first line is a name, one space, and the rest of it. Other text follows behind the newline.
pub record IsFirstLine (text name line rest : List ℕ) : Type 0 where
  pub named : IsLineName name
  pub first_line : cut_at 10 text ≡ Some (name ++ (32 ∷ line), rest)

-- The parts of the first line are at these places of the text: the name at its beginning, what is behind the space, and what is
-- behind the newline.
pub record AreLinePlaces (text name line rest : List ℕ) : Type 0 where
  pub name_is : part 0 (length name) text ≡ name
  pub line_is : part (length name + 1) (length line) text ≡ line
  pub rest_is : drop (length name + length line + 2) text ≡ rest
