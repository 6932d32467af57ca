-- What the calls of a lease clock return and write. Each is said for the one clock that the bytes
-- are.
use Rattle.std.specs.Prelude.{ℕ, ℤ, ◌≡◌, ◌≢◌, ◌+◌, List, length, if◌then◌else◌}
use Rattle.lease_clock.specs.Clocks.{Clock, at, begun, is_due, is_silent, leaves, reading, returned}
use Rattle.blocks.specs.Bytes.{IsClock, IsNoClock}
use Rattle.blocks.specs.Numbers.{done, refused}
use Rattle.blocks.specs.declared.refusal.Refusal.TheVariants.{BadState}

-- how many bytes a lease clock has
abbrev pub clock_bytes : ℕ
clock_bytes = 304

-- a clock is made, which begins now
pub record ClockIsMade (period now : ℕ) (before after : List ℕ) (result : ℤ) : Type 0 where
  pub bad_state : length before ≢ clock_bytes → result ≡ refused BadState
  pub made : length before ≡ clock_bytes → (result ≡ done) × IsClock after (begun period now)

-- a marker leaves now if one is due: its number, else 0
pub record ClockSends (before : List ℕ) (now : ℕ) (after : List ℕ) (number : ℕ) (result : ℤ) : Type 0 where
  pub no_clock : IsNoClock before → result ≡ refused BadState
  pub sends : (c : Clock) → IsClock before c
      → (result ≡ done) × IsClock after (leaves c now) × (number ≡ (if is_due c now then c.last.number + 1 else 0))

-- the marker of this number comes back
pub record ClockReturns (before : List ℕ) (number : ℕ) (after : List ℕ) (result : ℤ) : Type 0 where
  pub no_clock : IsNoClock before → result ≡ refused BadState
  pub returns : (c : Clock) → IsClock before c → (result ≡ done) × IsClock after (returned c number)

-- the reading at which a session is heard that is heard now
pub record ClockShowsTime (bytes : List ℕ) (now shown : ℕ) (result : ℤ) : Type 0 where
  pub no_clock : IsNoClock bytes → result ≡ refused BadState
  pub shows : (c : Clock) → IsClock bytes c → (result ≡ done) × (shown ≡ at c now)

-- the reading up to which all that was sent was heard, and when the newest marker left that came
-- back
pub record ClockShows (bytes : List ℕ) (shown left : ℕ) (result : ℤ) : Type 0 where
  pub no_clock : IsNoClock bytes → result ≡ refused BadState
  pub shows : (c : Clock) → IsClock bytes c → (result ≡ done) × (shown ≡ reading c) × (left ≡ c.back.left)

-- whether a session that was heard at this reading is silent for a TTL: 1 if it is, and 0 if not
pub record ClockIsSilent (bytes : List ℕ) (heard ttl yes : ℕ) (result : ℤ) : Type 0 where
  pub no_clock : IsNoClock bytes → result ≡ refused BadState
  pub silent : (c : Clock) → IsClock bytes c → (result ≡ done) × (yes ≡ (if is_silent c heard ttl then 1 else 0))
