-- What the calls of a row return and write. Each is said for the one row that the bytes are.
use Rattle.std.specs.Prelude.{ℕ, ℤ, ◌≡◌, ◌≢◌, ◌≤◌, ◌+◌, ◌*◌, ◌^◌, ◌==◌, Bool, not, List, [], ◌∷◌, length, Result, Ok, Err, if◌then◌else◌}
use Rattle.numbers.specs.Bounds.{max_limit}
use Rattle.sessions.specs.Rows.{Row, dropped, is_taken}
use Rattle.lost_rows.specs.Relearned.{relearned}
use Rattle.session_rows.specs.Calls.{claim_of, close_of, evict_of, floor_row, learn_of, reserve_of, take_back_of}
use Rattle.session_rows.specs.Saved.{words_of}
use Rattle.session_rows.specs.declared.claim.Bounds.{Bounds}
use Rattle.session_rows.specs.declared.claim.Claim.{Claim}
use Rattle.session_rows.specs.declared.claim.Heard.{Heard}
use Rattle.session_rows.specs.declared.fault.RowFault.{RowFault}
use Rattle.blocks.specs.Bytes.{IsNoRow, IsRow}
use Rattle.blocks.specs.Numbers.{done, refused, row_refusal}
use Rattle.blocks.specs.declared.refusal.Refusal.TheVariants.{BadArgument, BadState}

-- how many bytes a row has
abbrev pub row_bytes : ℕ
row_bytes = 48

-- the session with these halves of its name
abbrev pub named : ℕ → ℕ → ℕ
named upper lower = upper * 2 ^ 64 + lower

-- what C says by a number: 0 is no, and each other one is yes
abbrev pub is_yes : ℕ → Bool
is_yes n = not (n == 0)

-- a row is made: nobody has the number
pub record RowIsMade (epoch stamp : ℕ) (before after : List ℕ) (result : ℤ) : Type 0 where
  pub bad_argument : (stamp ≤ max_limit → ⊥) → result ≡ refused BadArgument
  pub bad_state : stamp ≤ max_limit → length before ≢ row_bytes → result ≡ refused BadState
  pub made : stamp ≤ max_limit → length before ≡ row_bytes → (result ≡ done) × IsRow after (floor_row epoch stamp)

-- by what the row's own step gives: a refusal, or the row afterwards
abbrev pub Leaves : Result Row RowFault → List ℕ → ℤ → Type 0
Leaves (Ok row) after result = (result ≡ done) × IsRow after row
Leaves (Err fault) after result = result ≡ refused (row_refusal fault)

-- a session claims the number
pub record RowClaims (before : List ℕ) (claim : Claim) (is_silent : Bool) (bounds : Bounds) (after : List ℕ) (result : ℤ) : Type 0 where
  pub no_row : IsNoRow before → result ≡ refused BadState
  pub claims : (row : Row) → IsRow before row → Leaves (claim_of row claim is_silent bounds) after result

-- a session wants stamps up to this one
pub record RowReserves (before : List ℕ) (session epoch stamp most : ℕ) (after : List ℕ) (result : ℤ) : Type 0 where
  pub no_row : IsNoRow before → result ≡ refused BadState
  pub reserves : (row : Row) → IsRow before row → Leaves (reserve_of row session epoch stamp most) after result

-- a session gives the number back
pub record RowCloses (before : List ℕ) (session epoch : ℕ) (after : List ℕ) (result : ℤ) : Type 0 where
  pub no_row : IsNoRow before → result ≡ refused BadState
  pub closes : (row : Row) → IsRow before row → Leaves (close_of row session epoch) after result

-- a session takes its claim back
pub record RowTakesBack (before : List ℕ) (session epoch : ℕ) (after : List ℕ) (result : ℤ) : Type 0 where
  pub no_row : IsNoRow before → result ≡ refused BadState
  pub back : (row : Row) → IsRow before row → Leaves (take_back_of row session epoch) after result

-- the session that has the number is ended
pub record RowEvicts (before after : List ℕ) (result : ℤ) : Type 0 where
  pub no_row : IsNoRow before → result ≡ refused BadState
  pub evicts : (row : Row) → IsRow before row → Leaves (evict_of row) after result

-- the row is dropped for a floor
pub record RowDrops (before : List ℕ) (epoch stamp : ℕ) (after : List ℕ) (result : ℤ) : Type 0 where
  pub bad_argument : (stamp ≤ max_limit → ⊥) → result ≡ refused BadArgument
  pub no_row : stamp ≤ max_limit → IsNoRow before → result ≡ refused BadState
  pub drops : (row : Row) → stamp ≤ max_limit → IsRow before row → (result ≡ done) × IsRow after (dropped row epoch stamp)

-- the row learns another voter's
pub record RowLearns (before other : List ℕ) (heard : Heard) (after : List ℕ) (result : ℤ) : Type 0 where
  pub no_row : IsNoRow before → result ≡ refused BadState
  pub no_other : (row : Row) → IsRow before row → IsNoRow other → result ≡ refused BadState
  pub learns : (row there : Row) → IsRow before row → IsRow other there → (result ≡ done) × IsRow after (learn_of row there heard)

-- the row of a voter whose state was lost learns another voter's
pub record RowRelearns (before other : List ℕ) (heard : Heard) (after : List ℕ) (result : ℤ) : Type 0 where
  pub no_row : IsNoRow before → result ≡ refused BadState
  pub no_other : (row : Row) → IsRow before row → IsNoRow other → result ≡ refused BadState
  pub relearns : (row there : Row) → IsRow before row → IsRow other there → (result ≡ done) × IsRow after (relearned row there heard)

-- whether the voter takes a REQUEST of the session: 1 if it does, and 0 if not
pub record RowTakes (bytes : List ℕ) (session epoch stamp yes : ℕ) (result : ℤ) : Type 0 where
  pub no_row : IsNoRow bytes → result ≡ refused BadState
  pub takes : (row : Row) → IsRow bytes row → (result ≡ done) × (yes ≡ (if is_taken row session epoch stamp then 1 else 0))

-- a row shows its six numbers
pub record RowShows (bytes : List ℕ) (epoch base reserved held upper lower : ℕ) (result : ℤ) : Type 0 where
  pub no_row : IsNoRow bytes → result ≡ refused BadState
  pub shows : (row : Row) → IsRow bytes row → (result ≡ done) × (epoch ∷ base ∷ reserved ∷ held ∷ upper ∷ lower ∷ [] ≡ words_of row)
