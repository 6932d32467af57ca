-- Lines of control: what sessions of clients and voters say to each other about sessions. Each is a word, and then numbers in decimal,
-- with a space in front of each.
use Rattle.std.specs.Prelude.{ℕ, ◌≡◌, ◌≢◌, ◌<◌, ◌≤◌, ◌^◌, ◌==◌, List, [], ◌∷◌, ◌++◌, codes, length, Option, Some, None, if◌then◌else◌}
use Rattle.std.specs.Str.{bytes_eq}
use Rattle.std.proofs.Common.{ap₂, sym, ◌∙◌, refl, get_or, arith, rules}
use Rattle.texts.specs.Fields.{AllFit, HasNoSpace, IsBorder, fields}
use Rattle.texts.specs.Forms.{Form, IsForm, IsWord, line_of}
use Rattle.session_lines.specs.declared.control.ClientWord.{ClientWord}
use Rattle.session_lines.specs.declared.control.ClientWord.TheVariants as client
use Rattle.session_lines.specs.declared.control.Opened.{Opened}
use Rattle.session_lines.specs.declared.control.VoterSays.{VoterSays}
use Rattle.session_lines.specs.declared.control.VoterSays.TheVariants as says
use Rattle.session_lines.specs.declared.control.VoterWord.{VoterWord}
use Rattle.session_lines.specs.declared.control.VoterWord.TheVariants as voter

-- What clients say

abbrev pub client_word : ClientWord → List ℕ
client_word client.Hello = codes "hello"
client_word client.Plan = codes "plan"
client_word (client.Open plan) = codes "open"
client_word client.Close = codes "close"
client_word (client.Claim number epoch) = codes "claim"
client_word (client.ClaimStamps number epoch stamps) = codes "claim"
client_word (client.Drop number epoch) = codes "drop"
client_word client.Greet = codes "greet"

abbrev pub client_numbers : ClientWord → List ℕ
client_numbers client.Hello = []
client_numbers client.Plan = []
client_numbers (client.Open plan) = plan ∷ []
client_numbers client.Close = []
client_numbers (client.Claim number epoch) = number ∷ epoch ∷ []
client_numbers (client.ClaimStamps number epoch stamps) = number ∷ epoch ∷ stamps ∷ []
client_numbers (client.Drop number epoch) = number ∷ epoch ∷ []
client_numbers client.Greet = []

-- the number of a client is at most 63, an epoch is at least 1, and all numbers are below 2^64
abbrev pub ClientWordFits : ClientWord → Type 0
ClientWordFits client.Hello = Unit {0}
ClientWordFits client.Plan = Unit {0}
ClientWordFits (client.Open plan) = plan < 2 ^ 64
ClientWordFits client.Close = Unit {0}
ClientWordFits (client.Claim number epoch) = (number ≤ 63) × (0 < epoch) × (epoch < 2 ^ 64)
ClientWordFits (client.ClaimStamps number epoch stamps) = (number ≤ 63) × (0 < epoch) × (epoch < 2 ^ 64) × (stamps < 2 ^ 64)
ClientWordFits (client.Drop number epoch) = (number ≤ 63) × (0 < epoch) × (epoch < 2 ^ 64)
ClientWordFits client.Greet = Unit {0}

abbrev pub client_form : Form ClientWord
client_form = record { word = client_word; numbers = client_numbers; fits = ClientWordFits }

-- the words of a line, without the dot in front of them and without the newline
abbrev pub client_line : ClientWord → List ℕ
client_line w = line_of client_form w

-- the line begins with a word, and clients say nothing that begins so: who does not know the word ignores the line
pub record IsUnknown (line : List ℕ) : Type 0 where
  pub word : List ℕ
  pub rest : List ℕ
  pub is : line ≡ word ++ rest
  pub plain : HasNoSpace word
  pub border : IsBorder rest
  pub some : 0 < length word
  pub none : (w : ClientWord) → word ≢ client_word w

-- What voters say

abbrev pub voter_word : VoterWord → List ℕ
voter_word (voter.Number number epoch state) = codes "number"
voter_word (voter.Claimed number epoch base reserved) = codes "claimed"
voter_word (voter.Refused number epoch) = codes "refused"
voter_word (voter.Closed number epoch) = codes "closed"
voter_word (voter.Taken number epoch) = codes "taken"
voter_word (voter.Unknown number epoch) = codes "unknown"
voter_word (voter.Run voter run) = codes "run"
voter_word (voter.Quiet milliseconds) = codes "quiet"
voter_word voter.Leaving = codes "leaving"
voter_word voter.Greeted = codes "greeted"

abbrev pub voter_numbers : VoterWord → List ℕ
voter_numbers (voter.Number number epoch state) = number ∷ epoch ∷ state ∷ []
voter_numbers (voter.Claimed number epoch base reserved) = number ∷ epoch ∷ base ∷ reserved ∷ []
voter_numbers (voter.Refused number epoch) = number ∷ epoch ∷ []
voter_numbers (voter.Closed number epoch) = number ∷ epoch ∷ []
voter_numbers (voter.Taken number epoch) = number ∷ epoch ∷ []
voter_numbers (voter.Unknown number epoch) = number ∷ epoch ∷ []
voter_numbers (voter.Run voter run) = voter ∷ run ∷ []
voter_numbers (voter.Quiet milliseconds) = milliseconds ∷ []
voter_numbers voter.Leaving = []
voter_numbers voter.Greeted = []

-- the number of a client or of a voter is at most 63, a state at most 2, and all numbers are below 2^64
abbrev pub VoterWordFits : VoterWord → Type 0
VoterWordFits (voter.Number number epoch state) = (number ≤ 63) × (epoch < 2 ^ 64) × (state ≤ 2)
VoterWordFits (voter.Claimed number epoch base reserved) = (number ≤ 63) × (epoch < 2 ^ 64) × (base < 2 ^ 64) × (reserved < 2 ^ 64)
VoterWordFits (voter.Refused number epoch) = (number ≤ 63) × (epoch < 2 ^ 64)
VoterWordFits (voter.Closed number epoch) = (number ≤ 63) × (epoch < 2 ^ 64)
VoterWordFits (voter.Taken number epoch) = (number ≤ 63) × (epoch < 2 ^ 64)
VoterWordFits (voter.Unknown number epoch) = (number ≤ 63) × (epoch < 2 ^ 64)
VoterWordFits (voter.Run voter run) = (voter ≤ 63) × (run < 2 ^ 64)
VoterWordFits (voter.Quiet milliseconds) = milliseconds < 2 ^ 64
VoterWordFits voter.Leaving = Unit {0}
VoterWordFits voter.Greeted = Unit {0}

abbrev pub voter_form : Form VoterWord
voter_form = record { word = voter_word; numbers = voter_numbers; fits = VoterWordFits }

-- the numbers of the reply to a heartbeat
abbrev pub opened_numbers : Opened → List ℕ
opened_numbers o = o.number ∷ o.epoch ∷ o.base ∷ o.reserved ∷ o.seq ∷ o.requests ∷ []

-- the number of a client is at most 63, and all numbers are below 2^64
pub record OpenedFits (o : Opened) : Type 0 where
  pub number : o.number ≤ 63
  pub epoch : o.epoch < 2 ^ 64
  pub base : o.base < 2 ^ 64
  pub reserved : o.reserved < 2 ^ 64
  pub seq : o.seq < 2 ^ 64
  pub requests : o.requests < 2 ^ 64

abbrev pub SaysFits : VoterSays → Type 0
SaysFits (says.Word w) = VoterWordFits w
SaysFits (says.Opened o) = OpenedFits o

-- the words of a line, without the dot in front of them and without the newline
abbrev pub says_line : VoterSays → List ℕ
says_line (says.Word w) = line_of voter_form w
says_line (says.Opened o) = codes "opened" ++ fields (opened_numbers o)

-- The forms are those of lines

-- what has this word and these numbers
client_by : List ℕ → List ℕ → Option ClientWord
client_by word ns =
    if bytes_eq word (codes "hello") then Some client.Hello else
    if bytes_eq word (codes "plan") then Some client.Plan else
    if bytes_eq word (codes "open") then Some (client.Open (get_or ns 0 0)) else
    if bytes_eq word (codes "close") then Some client.Close else
    if bytes_eq word (codes "claim") then
    (if length ns == 2 then Some (client.Claim (get_or ns 0 0) (get_or ns 1 0)) else Some (client.ClaimStamps (get_or ns 0 0) (get_or ns 1 0) (get_or ns 2 0))) else
    if bytes_eq word (codes "drop") then Some (client.Drop (get_or ns 0 0) (get_or ns 1 0)) else
    if bytes_eq word (codes "greet") then Some client.Greet else None

client_by-line : (w : ClientWord) → client_by (client_word w) (client_numbers w) ≡ Some w
unfolding client_by
client_by-line client.Hello = refl
client_by-line client.Plan = refl
client_by-line (client.Open plan) = refl
client_by-line client.Close = refl
client_by-line (client.Claim number epoch) = refl
client_by-line (client.ClaimStamps number epoch stamps) = refl
client_by-line (client.Drop number epoch) = refl
client_by-line client.Greet = refl

pub client_words : (w : ClientWord) → IsWord (client_word w)
client_words client.Hello = search rules
client_words client.Plan = search rules
client_words (client.Open plan) = search rules
client_words client.Close = search rules
client_words (client.Claim number epoch) = search rules
client_words (client.ClaimStamps number epoch stamps) = search rules
client_words (client.Drop number epoch) = search rules
client_words client.Greet = search rules

client_numbers_fit : (w : ClientWord) → ClientWordFits w → AllFit (client_numbers w)
client_numbers_fit client.Hello h = tt
client_numbers_fit client.Plan h = tt
client_numbers_fit (client.Open plan) h = (h, tt)
client_numbers_fit client.Close h = tt
client_numbers_fit (client.Claim number epoch) h = (omega (arith, h.0), (h.2, tt))
client_numbers_fit (client.ClaimStamps number epoch stamps) h = (omega (arith, h.0), (h.2, (h.3, tt)))
client_numbers_fit (client.Drop number epoch) h = (omega (arith, h.0), (h.2, tt))
client_numbers_fit client.Greet h = tt

client_numbers_few : (w : ClientWord) → length (client_numbers w) ≤ 5
client_numbers_few client.Hello = omega arith
client_numbers_few client.Plan = omega arith
client_numbers_few (client.Open plan) = omega arith
client_numbers_few client.Close = omega arith
client_numbers_few (client.Claim number epoch) = omega arith
client_numbers_few (client.ClaimStamps number epoch stamps) = omega arith
client_numbers_few (client.Drop number epoch) = omega arith
client_numbers_few client.Greet = omega arith

pub client_words_have_form : IsForm client_form
client_words_have_form = record {
  words = λ w h. client_words w;
  small = client_numbers_fit;
  few = λ w h. client_numbers_few w;
  one = λ v w hv hw word numbers.
      let by : ◌≡◌ {A = Option ClientWord} (Some v) (Some w) = sym (client_by-line v) ∙ ap₂ client_by word numbers ∙ client_by-line w in
      cc;
}

voter_by : List ℕ → List ℕ → Option VoterWord
voter_by word ns =
    if bytes_eq word (codes "number") then Some (voter.Number (get_or ns 0 0) (get_or ns 1 0) (get_or ns 2 0)) else
    if bytes_eq word (codes "claimed") then Some (voter.Claimed (get_or ns 0 0) (get_or ns 1 0) (get_or ns 2 0) (get_or ns 3 0)) else
    if bytes_eq word (codes "refused") then Some (voter.Refused (get_or ns 0 0) (get_or ns 1 0)) else
    if bytes_eq word (codes "closed") then Some (voter.Closed (get_or ns 0 0) (get_or ns 1 0)) else
    if bytes_eq word (codes "taken") then Some (voter.Taken (get_or ns 0 0) (get_or ns 1 0)) else
    if bytes_eq word (codes "unknown") then Some (voter.Unknown (get_or ns 0 0) (get_or ns 1 0)) else
    if bytes_eq word (codes "run") then Some (voter.Run (get_or ns 0 0) (get_or ns 1 0)) else
    if bytes_eq word (codes "quiet") then Some (voter.Quiet (get_or ns 0 0)) else
    if bytes_eq word (codes "leaving") then Some voter.Leaving else
    if bytes_eq word (codes "greeted") then Some voter.Greeted else None

voter_by-line : (w : VoterWord) → voter_by (voter_word w) (voter_numbers w) ≡ Some w
unfolding voter_by
voter_by-line (voter.Number number epoch state) = refl
voter_by-line (voter.Claimed number epoch base reserved) = refl
voter_by-line (voter.Refused number epoch) = refl
voter_by-line (voter.Closed number epoch) = refl
voter_by-line (voter.Taken number epoch) = refl
voter_by-line (voter.Unknown number epoch) = refl
voter_by-line (voter.Run voter run) = refl
voter_by-line (voter.Quiet milliseconds) = refl
voter_by-line voter.Leaving = refl
voter_by-line voter.Greeted = refl

pub voter_words : (w : VoterWord) → IsWord (voter_word w)
voter_words (voter.Number number epoch state) = search rules
voter_words (voter.Claimed number epoch base reserved) = search rules
voter_words (voter.Refused number epoch) = search rules
voter_words (voter.Closed number epoch) = search rules
voter_words (voter.Taken number epoch) = search rules
voter_words (voter.Unknown number epoch) = search rules
voter_words (voter.Run voter run) = search rules
voter_words (voter.Quiet milliseconds) = search rules
voter_words voter.Leaving = search rules
voter_words voter.Greeted = search rules

voter_numbers_fit : (w : VoterWord) → VoterWordFits w → AllFit (voter_numbers w)
voter_numbers_fit (voter.Number number epoch state) h = (omega (arith, h.0), (h.1, (omega (arith, h.2), tt)))
voter_numbers_fit (voter.Claimed number epoch base reserved) h = (omega (arith, h.0), (h.1, (h.2, (h.3, tt))))
voter_numbers_fit (voter.Refused number epoch) h = (omega (arith, h.0), (h.1, tt))
voter_numbers_fit (voter.Closed number epoch) h = (omega (arith, h.0), (h.1, tt))
voter_numbers_fit (voter.Taken number epoch) h = (omega (arith, h.0), (h.1, tt))
voter_numbers_fit (voter.Unknown number epoch) h = (omega (arith, h.0), (h.1, tt))
voter_numbers_fit (voter.Run voter run) h = (omega (arith, h.0), (h.1, tt))
voter_numbers_fit (voter.Quiet milliseconds) h = (h, tt)
voter_numbers_fit voter.Leaving h = tt
voter_numbers_fit voter.Greeted h = tt

voter_numbers_few : (w : VoterWord) → length (voter_numbers w) ≤ 5
voter_numbers_few (voter.Number number epoch state) = omega arith
voter_numbers_few (voter.Claimed number epoch base reserved) = omega arith
voter_numbers_few (voter.Refused number epoch) = omega arith
voter_numbers_few (voter.Closed number epoch) = omega arith
voter_numbers_few (voter.Taken number epoch) = omega arith
voter_numbers_few (voter.Unknown number epoch) = omega arith
voter_numbers_few (voter.Run voter run) = omega arith
voter_numbers_few (voter.Quiet milliseconds) = omega arith
voter_numbers_few voter.Leaving = omega arith
voter_numbers_few voter.Greeted = omega arith

pub voter_words_have_form : IsForm voter_form
voter_words_have_form = record {
  words = λ w h. voter_words w;
  small = voter_numbers_fit;
  few = λ w h. voter_numbers_few w;
  one = λ v w hv hw word numbers.
      let by : ◌≡◌ {A = Option VoterWord} (Some v) (Some w) = sym (voter_by-line v) ∙ ap₂ voter_by word numbers ∙ voter_by-line w in
      cc;
}
