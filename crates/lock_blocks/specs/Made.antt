-- What a call returns and writes that makes a voter or a client.
use Rattle.std.specs.Prelude.{ℕ, ℤ, ◌≡◌, ◌≢◌, ◌<◌, ◌≤◌, List, length}
use Rattle.numbers.specs.Bounds.{max_limit, max_voters}
use Rattle.blocks.specs.Numbers.{done, refused}
use Rattle.blocks.specs.declared.refusal.Refusal.TheVariants.{BadArgument, BadState}

-- how many bytes a voter has, and a client
abbrev pub state_bytes : ℕ
state_bytes = 1104

-- the number is below 64, and the limit is from 1 to 2^62
pub record AreInRange (id limit : ℕ) : Type 0 where
  pub few : id < max_voters
  pub some : 1 ≤ limit
  pub most : limit ≤ max_limit

-- the same, and the number of grants, or the clock, is at most the limit
pub record AreWithin (id limit number : ℕ) : Type 0 where
  pub few : id < max_voters
  pub some : 1 ≤ limit
  pub most : limit ≤ max_limit
  pub within : number ≤ limit

-- A voter or a client is made in place of these bytes, if its numbers are in range. `Changes` says of
-- which state the new bytes are.
pub record IsMade (InRange : Type 0) (before : List ℕ) (Changes : Type 0) (result : ℤ) : Type 0 where
  pub bad_argument : (InRange → ⊥) → result ≡ refused BadArgument
  pub bad_state : InRange → length before ≢ state_bytes → result ≡ refused BadState
  pub made : InRange → length before ≡ state_bytes → (result ≡ done) × Changes
