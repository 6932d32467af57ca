-- What a session keeps of its claims of a number, what comes to it, and when the number is its own.
use Rattle.std.specs.Prelude.{bit_or, ℕ, ◌≡◌, ◌+◌, ◌-◌, ◌^◌, max, nat_lt, ◌==◌, Bool, true, false, ◌&&◌, List, [], ◌∷◌, ◌++◌, Option, Some, None, if◌then◌else◌}
use Rattle.std.specs.List.{AllByRecursion}
use Rattle.numbers.specs.Sets.{members_of, within}
use Rattle.sessions.specs.Rows.{IsOneOf}
use Rattle.sessions.specs.Tables.{Answer, Event, TakesBack}
use Rattle.claims.specs.declared.claim.Claim.{Claim}

-- ---- what is kept

-- nothing was heard of the number
abbrev pub begun : Claim
begun = record { newest = 0; epoch = None; accepted = 0; base = 0 }

-- this epoch was heard of
abbrev pub saw : Claim → ℕ → Claim
saw c epoch = record c { newest = max c.newest epoch }

-- the last epoch that there is
abbrev pub last_epoch : ℕ
last_epoch = 2 ^ 64 - 1

-- the epoch after all that were heard of or claimed, if there is one
abbrev pub next_epoch : Claim → Option ℕ
next_epoch c = if nat_lt c.newest last_epoch then Some (c.newest + 1) else None

-- this epoch is claimed, and nobody accepted that yet
abbrev pub claiming : Claim → Option ℕ → Claim
claiming c None = c
claiming c (Some epoch) = record { newest = epoch; epoch = Some epoch; accepted = 0; base = 0 }

abbrev pub claims_next : Claim → Claim
claims_next c = claiming c (next_epoch c)

-- the claim that goes on is of this epoch
abbrev pub is_of : Option ℕ → ℕ → Bool
is_of None epoch = false
is_of (Some claimed) epoch = claimed == epoch

-- a voter's word that it accepted a claim of this epoch counts
abbrev pub is_accepted_by : Claim → ℕ → ℕ → Bool
is_accepted_by c voter epoch = nat_lt voter 64 && is_of c.epoch epoch

-- the voter accepted it, and told this base
abbrev pub accepted_by : Claim → ℕ → ℕ → ℕ → Claim
accepted_by c voter epoch base =
    if is_accepted_by c voter epoch then record c { accepted = bit_or c.accepted (2 ^ voter); base = max c.base base } else c

-- the session takes its claim back
abbrev pub given_up : Claim → Claim
given_up c = record { newest = c.newest; epoch = None; accepted = 0; base = 0 }

-- the number is the session's own under this epoch: all voters of this quorum accepted the claim
pub record IsOwn (c : Claim) (epoch quorum : ℕ) : Type 0 where
  pub claims : c.epoch ≡ Some epoch
  pub accepted : within (members_of quorum) (members_of c.accepted) ≡ true

-- ---- what comes to a session

pub data Step : Type 0 where
  -- it hears of an epoch of the number
  Sees : ℕ → Step
  -- it claims the number under the next epoch
  ClaimsNext : Step
  -- a voter's answer that it accepted a claim reaches it: late, in any order, or again
  Hears : Answer → Step
  -- it takes its claim back
  GivesUp : Step

abbrev pub stepped : Claim → Step → Claim
stepped c (Sees epoch) = saw c epoch
stepped c ClaimsNext = claims_next c
stepped c (Hears a) = accepted_by c a.voter a.row.epoch a.row.base
stepped c GivesUp = given_up c

-- what is kept after these, in order
abbrev pub all_stepped : Claim → List Step → Claim
all_stepped c [] = c
all_stepped c (s ∷ steps) = all_stepped (stepped c s) steps

-- the epoch of the claim that goes on, if one does
abbrev pub epochs_of : Option ℕ → List ℕ
epochs_of None = []
epochs_of (Some epoch) = epoch ∷ []

-- the epochs of which a session takes its claims back
abbrev pub taken_back : Claim → List Step → List ℕ
taken_back c [] = []
taken_back c (Sees epoch ∷ steps) = taken_back (saw c epoch) steps
taken_back c (ClaimsNext ∷ steps) = taken_back (claims_next c) steps
taken_back c (Hears a ∷ steps) = taken_back (accepted_by c a.voter a.row.epoch a.row.base) steps
taken_back c (GivesUp ∷ steps) = epochs_of c.epoch ++ taken_back (given_up c) steps

-- what reaches a session as a voter's answer is one of these, and for the session
abbrev pub IsHeard : List Answer → ℕ → Step → Type 0
IsHeard answers session (Hears a) = IsOneOf a answers × (a.row.session ≡ Some session)
IsHeard answers session (Sees epoch) = Unit {0}
IsHeard answers session ClaimsNext = Unit {0}
IsHeard answers session GivesUp = Unit {0}

-- These are the steps of a session: it hears answers that were given to it, and voters hear that a claim was taken back only if it was.
pub record AreSteps (events : List Event) (answers : List Answer) (session : ℕ) (steps : List Step) : Type 0 where
  pub heard : AllByRecursion (IsHeard answers session) steps
  pub backs : (voter epoch : ℕ) → IsOneOf (TakesBack voter session epoch) events → IsOneOf epoch (taken_back begun steps)

-- ---- saved

-- the two numbers of an epoch that may be there
abbrev pub epoch_words : Option ℕ → List ℕ
epoch_words None = 0 ∷ 0 ∷ []
epoch_words (Some epoch) = 1 ∷ epoch ∷ []

-- the numbers of a claim
abbrev pub words_of : Claim → List ℕ
words_of c = c.newest ∷ epoch_words c.epoch ++ c.accepted ∷ c.base ∷ []
