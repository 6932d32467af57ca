-- What a process of a voter does from its start until it serves, and when it raises its ceiling.
use Rattle.std.specs.Prelude.{ℕ, ◌+◌, ◌-◌, ◌*◌, ◌/◌, ◌^◌, ◌==◌, bit_and, bit_or, max, min, nat_le, nat_lt, Bool, false, true, ◌&&◌, ◌||◌, not, Option, if◌then◌else◌, is_some, unwrap_or}
use Rattle.std.specs.Int.{bit_at}
use Rattle.numbers.specs.Bounds.{max_limit}
use Rattle.starts.specs.declared.start.Answers.{Answers}
use Rattle.starts.specs.declared.start.Start.{Start}
use Rattle.starts.specs.declared.start.Turn.{Turn}
use Rattle.starts.specs.declared.start.Turn.TheVariants.{AsksAgain, Raises, Serves, ServesQuietly, Waits}

-- the last number of a grant that a voter can give
abbrev pub last_grant : ℕ
last_grant = max_limit

-- the most by which a ceiling is raised, but for a first block that is greater
abbrev pub most_block : ℕ
most_block = 2 ^ 24

-- ---- sets of voters: voter v is in the set if bit v is 1

abbrev pub has_voter : ℕ → ℕ → Bool
has_voter set voter = bit_at set voter == 1

abbrev pub with_voter : ℕ → ℕ → ℕ
with_voter set voter = bit_or set (2 ^ voter)

-- ---- steps

-- A process starts from a state that asked for this ceiling last, 0 if for none. It first asks for so many grants.
abbrev pub begun : ℕ → ℕ → Start
begun ceiling first = record {
  answered = 0;
  counted = 0;
  known = 0;
  floor = 0;
  asked = 0;
  kept = 0;
  ceiling = ceiling;
  first = max first 1;
  block = 0;
  serves = false;
  is_clean = false;
}

-- It asked for a ceiling, and does not give grants up to it yet.
abbrev pub is_waiting : Start → Bool
is_waiting s = nat_lt s.ceiling s.asked

-- a voter counts whose ceiling is known before the process serves
abbrev pub counted_by : Start → Bool → ℕ → ℕ
counted_by s says voter = if says && not s.serves then with_voter s.counted voter else s.counted

-- a voter answers: which ceiling it knew, and whether it knows that the last run ended with the saves that there are
abbrev pub hears : Start → ℕ → ℕ → Bool → Start
hears s voter ceiling is_clean = record s {
  answered = with_voter s.answered voter;
  counted = counted_by s true voter;
  known = max s.known ceiling;
  is_clean = s.is_clean || is_clean;
}

-- The next block is twice as great as the last one, at least the first one, and at most the most one.
abbrev pub next_block : Start → ℕ
next_block s = if nat_lt (2 * s.block) s.first then s.first else min (2 * s.block) most_block

-- the process asks for a ceiling above this number; before it serves, its grants are to be above it
abbrev pub asks : Start → ℕ → Start
asks s above = record s {
  asked = min (above + next_block s) last_grant;
  kept = 0;
  block = next_block s;
  floor = if s.serves then s.floor else above;
}

-- All others answered. Or so many that the silent ones and this voter contain no quorum, which is what a state needs
-- that asked for no ceiling yet. Any other one needs, after a while, so many that they and this voter contain a quorum.
abbrev pub may_ask : Start → Answers → Bool
may_ask s a =
    (bit_and s.answered a.others == a.others)
    || (if s.ceiling == 0 then not a.have_silent_quorum else a.is_patient && a.have_quorums)

-- The process asks for its first ceiling, above all that is known, once it may.
abbrev pub begins : Start → Answers → Start
begins s a = if (s.asked == 0) && may_ask s a then asks s (max s.known s.ceiling) else s

-- A voter keeps this ceiling. If it did not hear of this start before, it says which ceiling it knew. What it says of a
-- ceiling that was asked for before changes nothing.
abbrev pub is_kept_by : Start → ℕ → ℕ → Option ℕ → Start
is_kept_by s voter ceiling knew =
    if ceiling == s.asked then
    record s { kept = with_voter s.kept voter; counted = counted_by s (is_some knew) voter; known = max s.known (unwrap_or knew 0) }
    else s

-- What comes of the answers: `have_quorums` says whether the voters that keep the ceiling, and this one, contain a quorum.
-- Who knew of a higher ceiling than the floor is asked again. A state of whose voter nobody knows a ceiling is new.
abbrev pub turn_of : Start → Bool → Turn
turn_of s have_quorums =
    if not (is_waiting s && have_quorums) then Waits else
    if s.serves then Raises else
    if nat_lt s.floor s.known then AsksAgain else
    if s.is_clean || ((s.ceiling == 0) && (s.known == 0)) then Serves else ServesQuietly

abbrev pub after_turn : Start → Turn → Start
after_turn s Waits = s
after_turn s AsksAgain = asks s s.known
after_turn s Serves = record s { ceiling = s.asked; serves = true }
after_turn s ServesQuietly = record s { ceiling = s.asked; serves = true }
after_turn s Raises = record s { ceiling = s.asked }

-- The process gave the grant of this number, or skips the numbers up to it. Once half of the last block is used, it asks for
-- the next one, above this number.
abbrev pub needs : Start → ℕ → Start
needs s number =
    if s.serves && (not (is_waiting s) && nat_lt s.ceiling (number + s.block / 2)) then asks s (max s.ceiling number) else s

-- the plans changed, so all voters are to keep the ceiling again
abbrev pub renews : Start → Start
renews s = record s { kept = 0 }

-- the process may give the grant of this number
abbrev pub may_give : Start → ℕ → Bool
may_give s number = s.serves && (nat_lt s.floor number && nat_le number s.ceiling)
