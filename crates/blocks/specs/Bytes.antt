-- The rows, the lease clocks, the token buckets, the peers and the starts that C sees: their numbers as bytes.
use Rattle.std.specs.Prelude.{ℕ, ◌≡◌, List}
use Rattle.words.specs.WordBytes.{FitIn64Bits, bytes_of}
use Rattle.sessions.specs.Rows.{Row}
use Rattle.session_rows.specs.Saved as rows
use Rattle.lease_clock.specs.Clocks.{Clock, IsSound}
use Rattle.lease_clock.specs.Saved as clocks
use Rattle.token_bucket.specs.Buckets.{Bucket}
use Rattle.token_bucket.specs.Buckets as levels
use Rattle.token_bucket.specs.Saved as buckets
use Rattle.starts.specs.declared.peer.Peer.{Peer}
use Rattle.starts.specs.declared.start.Start.{Start}
use Rattle.starts.specs.Saved.{peer_words, start_words}

-- The bytes are those of this row: each of its numbers fits in 64 bits, and it can be read again.
pub record IsRow (bytes : List ℕ) (row : Row) : Type 0 where
  pub bounded : rows.IsBounded row
  pub fit : FitIn64Bits (rows.words_of row)
  pub bytes_are : bytes ≡ bytes_of (rows.words_of row)

-- the bytes are those of no row
abbrev pub IsNoRow : List ℕ → Type 0
IsNoRow bytes = (row : Row) → IsRow bytes row → ⊥

-- The bytes are those of this lease clock: each of its numbers fits in 64 bits, and it can be read
-- again.
pub record IsClock (bytes : List ℕ) (clock : Clock) : Type 0 where
  pub sound : IsSound clock
  pub fit : FitIn64Bits (clocks.words_of clock)
  pub bytes_are : bytes ≡ bytes_of (clocks.words_of clock)

-- the bytes are those of no lease clock
abbrev pub IsNoClock : List ℕ → Type 0
IsNoClock bytes = (clock : Clock) → IsClock bytes clock → ⊥

-- The bytes are those of this token bucket: each of its numbers fits in 64 bits, and it can be read
-- again.
pub record IsBucket (bytes : List ℕ) (bucket : Bucket) : Type 0 where
  pub sound : levels.IsSound bucket
  pub fit : FitIn64Bits (buckets.words_of bucket)
  pub bytes_are : bytes ≡ bytes_of (buckets.words_of bucket)

-- the bytes are those of no token bucket
abbrev pub IsNoBucket : List ℕ → Type 0
IsNoBucket bytes = (bucket : Bucket) → IsBucket bytes bucket → ⊥

-- the bytes are those of this peer: each of its numbers fits in 64 bits
pub record IsPeer (bytes : List ℕ) (peer : Peer) : Type 0 where
  pub fit : FitIn64Bits (peer_words peer)
  pub bytes_are : bytes ≡ bytes_of (peer_words peer)

-- the bytes are those of no peer
abbrev pub IsNoPeer : List ℕ → Type 0
IsNoPeer bytes = (peer : Peer) → IsPeer bytes peer → ⊥

-- the bytes are those of this start: each of its numbers fits in 64 bits
pub record IsStart (bytes : List ℕ) (start : Start) : Type 0 where
  pub fit : FitIn64Bits (start_words start)
  pub bytes_are : bytes ≡ bytes_of (start_words start)

-- the bytes are those of no start
abbrev pub IsNoStart : List ℕ → Type 0
IsNoStart bytes = (start : Start) → IsStart bytes start → ⊥
