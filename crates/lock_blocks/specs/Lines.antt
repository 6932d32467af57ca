-- Messages as lines, each with its newline, and what a call writes.
use Rattle.std.specs.Prelude.{ℕ, ℤ, ◌≡◌, ◌<◌, ◌≤◌, List, [], ◌∷◌, ◌++◌, drop, length}
use Rattle.std.specs.List.{AllByRecursion, flat_map}
use Rattle.message.specs.declared.message.Message.{Message}
use Rattle.message.specs.declared.message.Message.TheVariants as kinds
use Rattle.message.specs.declared.message.ToClient.{ToClient}
use Rattle.message.specs.declared.message.ToVoter.{ToVoter}
use Rattle.message.specs.Lines.{HasLine, message_line}
use Rattle.blocks.specs.Numbers.{done, refused}
use Rattle.blocks.specs.declared.refusal.Refusal.TheVariants.{NoRoom}

-- the line of a message, and a newline
abbrev pub line_of : Message → List ℕ
line_of m = message_line m ++ 10 ∷ []

-- the lines of these messages to clients, in order
abbrev pub lines_to_clients : List ToClient → List ℕ
lines_to_clients messages = flat_map (λ m. line_of (kinds.ToClient m)) messages

-- the lines of these messages to voters, in order
abbrev pub lines_to_voters : List ToVoter → List ℕ
lines_to_voters messages = flat_map (λ m. line_of (kinds.ToVoter m)) messages

-- each of these messages to clients has a line, so that its client takes it
abbrev pub ClientsCanRead : List ToClient → Type 0
ClientsCanRead messages = AllByRecursion (λ m. HasLine (kinds.ToClient m)) messages

-- each of these messages to voters has a line, so that its voter takes it
abbrev pub VotersCanRead : List ToVoter → Type 0
VotersCanRead messages = AllByRecursion (λ m. HasLine (kinds.ToVoter m)) messages

-- the bytes are the line of this message, without a newline, and it is for the voter with this number
pub record IsToVoter (line : List ℕ) (id : ℕ) (message : ToVoter) : Type 0 where
  pub has_line : HasLine (kinds.ToVoter message)
  pub line_is : line ≡ message_line (kinds.ToVoter message)
  pub its_own : message.voter ≡ id

-- the bytes are the line of this message, without a newline, and it is for the client with this number
pub record IsToClient (line : List ℕ) (id : ℕ) (message : ToClient) : Type 0 where
  pub has_line : HasLine (kinds.ToClient message)
  pub line_is : line ≡ message_line (kinds.ToClient message)
  pub its_own : message.client ≡ id

-- The text is at the front of `out`, whose other bytes stay as they were, and `written` is the number
-- of its bytes.
pub record Writes (text before after : List ℕ) (written : ℕ) : Type 0 where
  pub bytes : after ≡ text ++ drop (length text) before
  pub count : written ≡ length text

-- What a call does that has this text to write: if it fits, the call writes it, is done, and all that
-- `Changes` says is so. If it doesn't fit, the call is refused.
pub record Sends (text before after : List ℕ) (written : ℕ) (result : ℤ) (Changes : Type 0) : Type 0 where
  pub sent : length text ≤ length before → (result ≡ done) × Writes text before after written × Changes
  pub no_room : length before < length text → result ≡ refused NoRoom
