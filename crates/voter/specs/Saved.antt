-- A voter as 138 numbers of 64 bits, to be saved and restored, and the least of it that has to
-- survive a crash.
use Rattle.std.specs.Prelude.{ℕ, zero, suc, ◌≡◌, ◌<◌, ◌≤◌, Bool, true, false, List, [], ◌∷◌, ◌++◌, length, Option, Some, None}
use Rattle.std.specs.FinMap.{get}
use Rattle.numbers.specs.Bounds.{max_clients, max_voters}
use Rattle.voter.specs.declared.state.Grant.{Grant}
use Rattle.voter.specs.declared.state.VoterState.{VoterState}
use Rattle.voter.specs.Waiting.{waiting_words}
use Rattle.voter.specs.Steps.{IsSound, start}

-- The first number: what follows is a voter, in version 1. Its bytes are "qvoter1" and 0.
abbrev pub header : ℕ
header = 13918053929547377

-- a truth value as a number
abbrev pub truth_word : Bool → ℕ
truth_word false = 0
truth_word true = 1

-- 1 if there is a grant, and its client, stamp and number; otherwise four times 0
abbrev pub grant_words : Option Grant → List ℕ
grant_words None = 0 ∷ 0 ∷ 0 ∷ 0 ∷ []
grant_words (Some g) = 1 ∷ g.client ∷ g.stamp ∷ g.grant ∷ []

-- the first ten numbers: header, number, limit, grants given, highest stamp seen, whether an INQUIRE
-- is outstanding, and the grant
abbrev pub head_words : VoterState → List ℕ
head_words v = header ∷ v.id ∷ v.limit ∷ v.granted ∷ v.seen ∷ truth_word v.inquiring ∷ grant_words v.held

-- the numbers of a voter: the first ten, the waiting requests, and the finished stamps
unfoldable pub words_of : VoterState → List ℕ
words_of v = head_words v ++ (waiting_words v.waiting ++ v.finished)

-- the stamp in a number; 0 is no stamp
abbrev pub stamp_of_word : ℕ → Option ℕ
stamp_of_word zero = None
stamp_of_word (suc n) = Some (suc n)

-- the grant, if there is one, is of a client below 64, and its stamp and its number are not 0
abbrev pub IsHolder : Option Grant → Type 0
IsHolder None = Unit {0}
IsHolder (Some g) = (g.client < max_clients) × (1 ≤ g.stamp) × (1 ≤ g.grant)

-- A voter that can be saved and restored: it is sound, its number and its clients are below 64, and no
-- request has stamp 0.
pub record IsKept (v : VoterState) : Type 0 where
  pub sound : IsSound v
  pub id : v.id < max_voters
  pub holder : IsHolder v.held
  pub stamped : (c s : ℕ) → get v.waiting c ≡ Some s → 1 ≤ s
  pub places : length v.finished ≡ max_clients
  pub few : (c : ℕ) → max_clients ≤ c → get v.waiting c ≡ None

-- The least of a voter: its grant, and the number of grants that it gave. Its number and its limit
-- stay the same.
abbrev pub least_voter : VoterState → VoterState
least_voter v = record (start v.id v.limit) { held = v.held; granted = v.granted }
