-- What a session keeps of what a voter told it of its stamps.
use Rattle.std.specs.Prelude.{ℕ, ◌≡◌, ◌<◌, max, nat_le, nat_lt, Bool, true, false, ◌&&◌, List, [], ◌∷◌, Option, None, Some, if◌then◌else◌}
use Rattle.std.specs.List.{list_all, slice_get}
use Rattle.numbers.specs.Sets.{members_of, set_where}
use Rattle.sessions.specs.Rows.{IsOneOf}
use Rattle.lost_rows.specs.Voters.{Answer}
use Rattle.own_stamps.specs.declared.stamps.OwnStamps.{OwnStamps}

-- of a voter that has this run, and told nothing in it
abbrev pub untold : ℕ → OwnStamps
untold run = record { run = run; is_told = false; base = 0; reserved = 0 }

-- somebody says that the voter has this run: of an earlier one nothing counts
abbrev pub renewed : OwnStamps → ℕ → OwnStamps
renewed s run = if nat_lt s.run run then untold run else s

-- what the voter told is forgotten, and not its run
abbrev pub forgotten : OwnStamps → OwnStamps
forgotten s = untold s.run

-- in the run that is known the voter tells the base of the session's stamps, and up to which they are reserved
abbrev pub noted : OwnStamps → ℕ → ℕ → OwnStamps
noted s base reserved = record { run = s.run; is_told = true; base = max s.base base; reserved = max s.reserved reserved }

-- the voter tells so in this run
abbrev pub told : OwnStamps → ℕ → ℕ → ℕ → OwnStamps
told s run base reserved = if nat_lt run s.run then s else noted (renewed s run) base reserved

-- the session may ask under this stamp
abbrev pub is_own : OwnStamps → ℕ → Bool
is_own s stamp = s.is_told && (nat_lt s.base stamp && nat_le stamp s.reserved)

-- ---- all voters

-- this stamp is the session's own at a voter of which this is kept, if anything is
abbrev pub is_own_there : Option OwnStamps → ℕ → Bool
is_own_there None stamp = false
is_own_there (Some s) stamp = is_own s stamp

-- the stamp is the session's own at this voter, by what is kept of each voter, voter by voter
abbrev pub is_owner : List OwnStamps → ℕ → ℕ → Bool
is_owner kept stamp voter = is_own_there (slice_get kept voter) stamp

-- the voters at which the stamp is the session's own
abbrev pub owners : List OwnStamps → ℕ → List ℕ
owners kept stamp = set_where (is_owner kept stamp)

-- the session may ask this quorum under the stamp, which is its own at each voter of the quorum
abbrev pub may_ask : List OwnStamps → ℕ → ℕ → Bool
may_ask kept quorum stamp = list_all (is_owner kept stamp) (members_of quorum)

-- ---- answers

-- what is kept of these answers of one run, the newest first
abbrev pub all_told : ℕ → List Answer → OwnStamps
all_told run [] = untold run
all_told run (a ∷ answers) = noted (all_told run answers) a.row.base a.row.reserved

-- an answer of these, of this voter in this run, for the session under its epoch
abbrev pub IsOf : List Answer → ℕ → ℕ → ℕ → ℕ → Answer → Type 0
IsOf answers session epoch voter run a =
    IsOneOf a answers × (a.voter ≡ voter) × (a.row.session ≡ Some session) × (a.row.epoch ≡ epoch) × (a.run ≡ run)

-- the base of an answer is below a stamp
abbrev pub AreBelow : ℕ → Answer → Type 0
AreBelow stamp a = a.row.base < stamp

-- a truth as a number
abbrev pub bool_word : Bool → ℕ
bool_word false = 0
bool_word true = 1

-- the numbers of what is kept
abbrev pub words_of : OwnStamps → List ℕ
words_of s = s.run ∷ bool_word s.is_told ∷ s.base ∷ s.reserved ∷ []
