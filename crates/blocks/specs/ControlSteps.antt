-- What the calls of lines of control return and write. Each is said for the one line that the bytes are, or for the one thing that
-- the numbers say.
use Rattle.std.specs.Prelude.{ℕ, ℤ, ◌≡◌, ◌≢◌, ◌<◌, ◌≤◌, ◌++◌, List, [], ◌∷◌, drop, length, Option, Some, None, if◌then◌else◌, ◌==◌}
use Rattle.line_words.specs.Lines.{control_line}
use Rattle.session_lines.specs.Control.{ClientWordFits, IsUnknown, SaysFits, client_line, says_line}
use Rattle.session_lines.specs.declared.control.ClientWord.{ClientWord}
use Rattle.session_lines.specs.declared.control.ClientWord.TheVariants as client
use Rattle.session_lines.specs.declared.control.VoterSays.{VoterSays}
use Rattle.session_lines.specs.declared.control.VoterSays.TheVariants as says
use Rattle.session_lines.specs.declared.control.VoterWord.TheVariants as voter
use Rattle.blocks.specs.Numbers.{done, refused}
use Rattle.blocks.specs.declared.refusal.Refusal.TheVariants.{BadArgument, BadMessage, NoRoom}

-- What clients say, as words: its kind, the number of the client, and two more; those that it does not have are 0

-- how many words there are
abbrev pub client_words : ℕ
client_words = 4

abbrev pub words_of_client : ClientWord → List ℕ
words_of_client client.Hello = 1 ∷ 0 ∷ 0 ∷ 0 ∷ []
words_of_client client.Plan = 2 ∷ 0 ∷ 0 ∷ 0 ∷ []
words_of_client (client.Open plan) = 3 ∷ 0 ∷ plan ∷ 0 ∷ []
words_of_client client.Close = 4 ∷ 0 ∷ 0 ∷ 0 ∷ []
words_of_client (client.Claim number epoch) = 5 ∷ number ∷ epoch ∷ 0 ∷ []
words_of_client (client.ClaimStamps number epoch stamps) = 6 ∷ number ∷ epoch ∷ stamps ∷ []
words_of_client (client.Drop number epoch) = 7 ∷ number ∷ epoch ∷ 0 ∷ []
words_of_client client.Greet = 8 ∷ 0 ∷ 0 ∷ 0 ∷ []

-- what has these words, if anything does
abbrev pub client_of : ℕ → ℕ → ℕ → ℕ → Option ClientWord
client_of kind id first second =
    if kind == 1 then Some client.Hello else
    if kind == 2 then Some client.Plan else
    if kind == 3 then Some (client.Open first) else
    if kind == 4 then Some client.Close else
    if kind == 5 then Some (client.Claim id first) else
    if kind == 6 then Some (client.ClaimStamps id first second) else
    if kind == 7 then Some (client.Drop id first) else
    if kind == 8 then Some client.Greet else None

-- What a session of a client says is read. A line that begins with no known word is 0 and three times 0. Any other line that says
-- nothing is refused.
pub record ClientWordIsRead (line before after : List ℕ) (result : ℤ) : Type 0 where
  pub bad_argument : length before ≢ client_words → result ≡ refused BadArgument
  pub read : length before ≡ client_words → (w : ClientWord) → ClientWordFits w → line ≡ client_line w → (result ≡ done) × (after ≡ words_of_client w)
  pub unknown : length before ≡ client_words → IsUnknown line → (result ≡ done) × (after ≡ 0 ∷ 0 ∷ 0 ∷ 0 ∷ [])
  pub bad_message : length before ≡ client_words → (IsUnknown line → ⊥) → ((w : ClientWord) → ClientWordFits w → line ≡ client_line w → ⊥)
      → result ≡ refused BadMessage

-- What voters say, as words: its kind, the number of the client, and five more

abbrev pub voter_words : ℕ
voter_words = 7

abbrev pub words_of_voter : VoterSays → List ℕ
words_of_voter (says.Word (voter.Number number epoch state)) = 1 ∷ number ∷ epoch ∷ state ∷ 0 ∷ 0 ∷ 0 ∷ []
words_of_voter (says.Word (voter.Claimed number epoch base reserved)) = 2 ∷ number ∷ epoch ∷ base ∷ reserved ∷ 0 ∷ 0 ∷ []
words_of_voter (says.Word (voter.Refused number epoch)) = 3 ∷ number ∷ epoch ∷ 0 ∷ 0 ∷ 0 ∷ 0 ∷ []
words_of_voter (says.Opened o) = 4 ∷ o.number ∷ o.epoch ∷ o.base ∷ o.reserved ∷ o.seq ∷ o.requests ∷ []
words_of_voter (says.Word (voter.Closed number epoch)) = 5 ∷ number ∷ epoch ∷ 0 ∷ 0 ∷ 0 ∷ 0 ∷ []
words_of_voter (says.Word (voter.Taken number epoch)) = 6 ∷ number ∷ epoch ∷ 0 ∷ 0 ∷ 0 ∷ 0 ∷ []
words_of_voter (says.Word (voter.Unknown number epoch)) = 7 ∷ number ∷ epoch ∷ 0 ∷ 0 ∷ 0 ∷ 0 ∷ []
words_of_voter (says.Word (voter.Quiet milliseconds)) = 8 ∷ 0 ∷ milliseconds ∷ 0 ∷ 0 ∷ 0 ∷ 0 ∷ []
words_of_voter (says.Word voter.Leaving) = 9 ∷ 0 ∷ 0 ∷ 0 ∷ 0 ∷ 0 ∷ 0 ∷ []
words_of_voter (says.Word voter.Greeted) = 10 ∷ 0 ∷ 0 ∷ 0 ∷ 0 ∷ 0 ∷ 0 ∷ []
words_of_voter (says.Word (voter.Run v run)) = 11 ∷ v ∷ run ∷ 0 ∷ 0 ∷ 0 ∷ 0 ∷ []

-- what has these words, if anything does
abbrev pub says_of : ℕ → ℕ → ℕ → ℕ → ℕ → ℕ → ℕ → Option VoterSays
says_of kind id first second third fourth fifth =
    if kind == 1 then Some (says.Word (voter.Number id first second)) else
    if kind == 2 then Some (says.Word (voter.Claimed id first second third)) else
    if kind == 3 then Some (says.Word (voter.Refused id first)) else
    if kind == 4 then Some (says.Opened (record { number = id; epoch = first; base = second; reserved = third; seq = fourth; requests = fifth })) else
    if kind == 5 then Some (says.Word (voter.Closed id first)) else
    if kind == 6 then Some (says.Word (voter.Taken id first)) else
    if kind == 7 then Some (says.Word (voter.Unknown id first)) else
    if kind == 8 then Some (says.Word (voter.Quiet first)) else
    if kind == 9 then Some (says.Word voter.Leaving) else
    if kind == 10 then Some (says.Word voter.Greeted) else
    if kind == 11 then Some (says.Word (voter.Run id first)) else None

-- what a voter says is read
pub record VoterSaysIsRead (line before after : List ℕ) (result : ℤ) : Type 0 where
  pub bad_argument : length before ≢ voter_words → result ≡ refused BadArgument
  pub read : length before ≡ voter_words → (s : VoterSays) → SaysFits s → line ≡ says_line s → (result ≡ done) × (after ≡ words_of_voter s)
  pub bad_message : length before ≡ voter_words → ((s : VoterSays) → SaysFits s → line ≡ says_line s → ⊥) → result ≡ refused BadMessage

-- A line is written, if what says it fits: to the front of `out`, whose other bytes stay.
pub record WritesLine (Fits : Type 0) (line before after : List ℕ) (written : ℕ) (result : ℤ) : Type 0 where
  pub bad_argument : (Fits → ⊥) → result ≡ refused BadArgument
  pub no_room : Fits → length before < length line → result ≡ refused NoRoom
  pub sent : Fits → length line ≤ length before → (result ≡ done) × (after ≡ line ++ drop (length line) before) × (written ≡ length line)

-- what a client says is written
abbrev pub WritesClientWord : Option ClientWord → List ℕ → List ℕ → ℕ → ℤ → Type 0
WritesClientWord None before after written result = result ≡ refused BadArgument
WritesClientWord (Some w) before after written result = WritesLine (ClientWordFits w) (control_line (client_line w)) before after written result

-- what a voter says is written
abbrev pub WritesVoterSays : Option VoterSays → List ℕ → List ℕ → ℕ → ℤ → Type 0
WritesVoterSays None before after written result = result ≡ refused BadArgument
WritesVoterSays (Some s) before after written result = WritesLine (SaysFits s) (control_line (says_line s)) before after written result
