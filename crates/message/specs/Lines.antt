-- The one line of each message: its word, and then each of its numbers in decimal, with a space in
-- front.
use Rattle.std.specs.Prelude.{ℕ, ◌≡◌, ◌<◌, ◌≤◌, ◌^◌, List, [], ◌∷◌, ◌++◌, codes, length, Option, Some, None, if◌then◌else◌}
use Rattle.std.specs.Str.{bytes_eq}
use Rattle.std.proofs.Common.{ap₂, sym, ◌∙◌, refl, get_or, arith, rules}
use Rattle.message.specs.declared.message.Message.{Message}
use Rattle.message.specs.declared.message.Message.TheVariants as kinds
use Rattle.message.specs.declared.message.VoterBody.{VoterBody}
use Rattle.message.specs.declared.message.VoterBody.TheVariants as asks
use Rattle.message.specs.declared.message.ClientBody.{ClientBody}
use Rattle.message.specs.declared.message.ClientBody.TheVariants as to_client
use Rattle.texts.specs.Fields.{AllFit}
use Rattle.texts.specs.Forms.{Form, IsForm, IsWord, line_of}

-- REQUEST, RELINQUISH and RELEASE, from a client to a voter
abbrev pub voter_word : VoterBody → List ℕ
voter_word (asks.Request stamp) = codes "request"
voter_word (asks.Relinquish grant) = codes "relinquish"
voter_word (asks.Release stamp) = codes "release"

-- the number at the end of a line to a voter: a stamp or a grant
abbrev pub voter_number : VoterBody → ℕ
voter_number (asks.Request stamp) = stamp
voter_number (asks.Relinquish grant) = grant
voter_number (asks.Release stamp) = stamp

-- LOCKED, FAIL and INQUIRE, from a voter to a client
abbrev pub client_word : ClientBody → List ℕ
client_word (to_client.Locked stamp grant) = codes "locked"
client_word (to_client.Fail stamp) = codes "fail"
client_word (to_client.Inquire grant) = codes "inquire"

-- the numbers at the end of a line to a client
abbrev pub client_numbers : ClientBody → List ℕ
client_numbers (to_client.Locked stamp grant) = stamp ∷ grant ∷ []
client_numbers (to_client.Fail stamp) = stamp ∷ []
client_numbers (to_client.Inquire grant) = grant ∷ []

-- the word that a line begins with
abbrev pub word_of : Message → List ℕ
word_of (kinds.ToVoter m) = voter_word m.body
word_of (kinds.ToClient m) = client_word m.body

-- the sender, the receiver, the numbers of the body, and from a voter the highest stamp that it saw
abbrev pub numbers_of : Message → List ℕ
numbers_of (kinds.ToVoter m) = m.client ∷ m.voter ∷ voter_number m.body ∷ []
numbers_of (kinds.ToClient m) = m.voter ∷ m.client ∷ client_numbers m.body ++ m.seen ∷ []

-- a stamp or a grant's number: 1 to 2^64 - 1
abbrev pub IsCount : ℕ → Type 0
IsCount n = (1 ≤ n) × (n < 2 ^ 64)

-- the stamps and grants in a message to a client can be written
abbrev pub AreCounts : ClientBody → Type 0
AreCounts (to_client.Locked stamp grant) = IsCount stamp × IsCount grant
AreCounts (to_client.Fail stamp) = IsCount stamp
AreCounts (to_client.Inquire grant) = IsCount grant

-- a client or a voter is at most 63, and each stamp and grant is a count
abbrev pub HasLine : Message → Type 0
HasLine (kinds.ToVoter m) = (m.client ≤ 63) × (m.voter ≤ 63) × IsCount (voter_number m.body)
HasLine (kinds.ToClient m) = (m.voter ≤ 63) × (m.client ≤ 63) × (m.seen < 2 ^ 64) × AreCounts m.body

-- the form of a message's line
abbrev pub message_form : Form Message
message_form = record { word = word_of; numbers = numbers_of; fits = HasLine }

-- the one line of a message, without its newline
abbrev pub message_line : Message → List ℕ
message_line m = line_of message_form m

-- The form is that of lines

-- the message to a voter, or to a client, whose first numbers are these
to_voter_by : List ℕ → VoterBody → Option Message
to_voter_by ns b = Some (kinds.ToVoter (record { client = get_or ns 0 0; voter = get_or ns 1 0; body = b }))

to_client_by : List ℕ → ℕ → ClientBody → Option Message
to_client_by ns seen b = Some (kinds.ToClient (record { voter = get_or ns 0 0; client = get_or ns 1 0; seen = seen; body = b }))

-- the message of a word and its numbers
message_by : List ℕ → List ℕ → Option Message
message_by word ns =
    if bytes_eq word (codes "request") then to_voter_by ns (asks.Request (get_or ns 2 0)) else
    if bytes_eq word (codes "relinquish") then to_voter_by ns (asks.Relinquish (get_or ns 2 0)) else
    if bytes_eq word (codes "release") then to_voter_by ns (asks.Release (get_or ns 2 0)) else
    if bytes_eq word (codes "locked") then to_client_by ns (get_or ns 4 0) (to_client.Locked (get_or ns 2 0) (get_or ns 3 0)) else
    if bytes_eq word (codes "fail") then to_client_by ns (get_or ns 3 0) (to_client.Fail (get_or ns 2 0)) else
    if bytes_eq word (codes "inquire") then to_client_by ns (get_or ns 3 0) (to_client.Inquire (get_or ns 2 0)) else None

voter_by-line : (client voter : ℕ) (b : VoterBody)
    → message_by (voter_word b) (client ∷ voter ∷ voter_number b ∷ []) ≡ Some (kinds.ToVoter (record { client = client; voter = voter; body = b }))
unfolding message_by to_voter_by to_client_by
voter_by-line client voter (asks.Request stamp) = refl
voter_by-line client voter (asks.Relinquish grant) = refl
voter_by-line client voter (asks.Release stamp) = refl

client_by-line : (voter client seen : ℕ) (b : ClientBody)
    → message_by (client_word b) (voter ∷ client ∷ client_numbers b ++ seen ∷ [])
    ≡ Some (kinds.ToClient (record { voter = voter; client = client; seen = seen; body = b }))
unfolding message_by to_voter_by to_client_by
client_by-line voter client seen (to_client.Locked stamp grant) = refl
client_by-line voter client seen (to_client.Fail stamp) = refl
client_by-line voter client seen (to_client.Inquire grant) = refl

message_by-line : (m : Message) → message_by (word_of m) (numbers_of m) ≡ Some m
message_by-line (kinds.ToVoter m) = voter_by-line m.client m.voter m.body
message_by-line (kinds.ToClient m) = client_by-line m.voter m.client m.seen m.body

voter_words : (b : VoterBody) → IsWord (voter_word b)
voter_words (asks.Request stamp) = search rules
voter_words (asks.Relinquish grant) = search rules
voter_words (asks.Release stamp) = search rules

client_words : (b : ClientBody) → IsWord (client_word b)
client_words (to_client.Locked stamp grant) = search rules
client_words (to_client.Fail stamp) = search rules
client_words (to_client.Inquire grant) = search rules

message_words : (m : Message) → HasLine m → IsWord (word_of m)
message_words (kinds.ToVoter m) h = voter_words m.body
message_words (kinds.ToClient m) h = client_words m.body

client_numbers_fit : (s : ℕ) (b : ClientBody) → s < 2 ^ 64 → AreCounts b → AllFit (client_numbers b ++ s ∷ [])
client_numbers_fit s (to_client.Locked stamp grant) hs h = (h.0.1, (h.1.1, (hs, tt)))
client_numbers_fit s (to_client.Fail stamp) hs h = (h.1, (hs, tt))
client_numbers_fit s (to_client.Inquire grant) hs h = (h.1, (hs, tt))

message_numbers_fit : (m : Message) → HasLine m → AllFit (numbers_of m)
message_numbers_fit (kinds.ToVoter m) h = (omega (arith, h.0), (omega (arith, h.1), (h.2.1, tt)))
message_numbers_fit (kinds.ToClient m) h =
    (omega (arith, h.0), (omega (arith, h.1), client_numbers_fit m.seen m.body h.2 h.3))

client_numbers_few : (s : ℕ) (b : ClientBody) → length (client_numbers b ++ s ∷ []) ≤ 3
client_numbers_few s (to_client.Locked stamp grant) = omega arith
client_numbers_few s (to_client.Fail stamp) = omega arith
client_numbers_few s (to_client.Inquire grant) = omega arith

message_numbers_few : (m : Message) → length (numbers_of m) ≤ 5
message_numbers_few (kinds.ToVoter m) = omega arith
message_numbers_few (kinds.ToClient m) = omega (arith, client_numbers_few m.seen m.body)

pub messages_have_form : IsForm message_form
messages_have_form = record {
  words = message_words;
  small = message_numbers_fit;
  few = λ m h. message_numbers_few m;
  one = λ m n hm hn word numbers.
      let by : ◌≡◌ {A = Option Message} (Some m) (Some n) = sym (message_by-line m) ∙ ap₂ message_by word numbers ∙ message_by-line n in
      cc;
}
