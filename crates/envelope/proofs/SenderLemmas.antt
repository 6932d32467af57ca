-- The words of a sender: its kind, and what is behind it.
use Rattle.std.proofs.Common.{◌≡◌, ◌≢◌, ℕ, List, [], ◌∷◌, ◌++◌, refl, rules}
use Rattle.std.specs.Prelude.{codes}
use Rattle.std.specs.Fmt.{decimal}
use Rattle.texts.specs.Fields.{HasNoSpace, IsBorder}
use Rattle.envelope.specs.Headers.{sender_words}
use Rattle.envelope.specs.declared.header.Sender.{Sender}
use Rattle.envelope.specs.declared.header.Sender.TheVariants.{Client, Voter, Operator}
use Rattle.line_words.specs.Lines.{spaced}

abbrev pub kind_of : Sender → List ℕ
kind_of (Client number epoch reserved seq) = codes "c"
kind_of (Voter number run start lapses) = codes "v"
kind_of Operator = codes "o"

abbrev pub behind : Sender → List ℕ → List ℕ → List ℕ
behind (Client number epoch reserved seq) w rest = spaced (decimal number ∷ decimal epoch ∷ decimal reserved ∷ w ∷ decimal seq ∷ []) rest
behind (Voter number run start lapses) w rest = spaced (decimal number ∷ decimal run ∷ decimal start ∷ w ∷ decimal lapses ∷ []) rest
behind Operator w rest = spaced (w ∷ []) rest

pub record AreParts (s : Sender) (w rest : List ℕ) : Type 0 where
  pub whole : spaced (sender_words s w) rest ≡ (32 ∷ kind_of s) ++ behind s w rest
  pub plain : HasNoSpace (kind_of s)
  pub border : IsBorder (behind s w rest)

pub parts : (s : Sender) (w rest : List ℕ) → AreParts s w rest
parts (Client number epoch reserved seq) w rest = record { whole = refl; plain = search rules; border = refl }
parts (Voter number run start lapses) w rest = record { whole = refl; plain = search rules; border = refl }
parts Operator w rest = record { whole = refl; plain = search rules; border = refl }

pub one_kind : (s : Sender) (word : List ℕ) → word ≡ kind_of s → word ≢ codes "c" → word ≢ codes "v" → word ≢ codes "o" → ⊥
one_kind (Client number epoch reserved seq) word is c v o = c is
one_kind (Voter number run start lapses) word is c v o = v is
one_kind Operator word is c v o = o is

pub IsBorder-sender : (s : Sender) (w rest : List ℕ) → IsBorder (spaced (sender_words s w) rest)
IsBorder-sender (Client number epoch reserved seq) w rest = refl
IsBorder-sender (Voter number run start lapses) w rest = refl
IsBorder-sender Operator w rest = refl
