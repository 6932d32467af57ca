-- What the calls of a guard return and write.
use Rattle.std.specs.Prelude.{ℕ, ℤ, ◌≡◌, ◌≢◌, ◌+◌, ◌^◌, ◌<◌, ◌≤◌, List, length, map, replicate}
use Rattle.std.specs.List.{range_with_len}
use Rattle.numbers.specs.Bounds.{max_voters}
use Rattle.fence.specs.Passes.{Admits, HasGrant, Refuses, highest_with}
use Rattle.fence.specs.Turns.{Raises, RaisesNone}
use Rattle.lock_blocks.specs.Bytes.{AreGrants, IsGuard}
use Rattle.blocks.specs.Numbers.{done, refused}
use Rattle.blocks.specs.declared.refusal.Refusal.TheVariants.{BadArgument, BadState, NoPass, OlderGrant, TurnsSpent}

-- how many bytes a pass has
abbrev pub grant_bytes : ℕ
grant_bytes = 512

-- how many bytes a guard has
abbrev pub guard_bytes : ℕ
guard_bytes = 520

-- a guard is made: it saw nothing
pub record FenceIsMade (before after : List ℕ) (result : ℤ) : Type 0 where
  pub bad_state : length before ≢ guard_bytes → result ≡ refused BadState
  pub made : length before ≡ guard_bytes → (result ≡ done) × IsGuard after (replicate max_voters 0) 0

-- the highest grant of each voter that was seen, with this pass
abbrev pub seen_with : List ℕ → List ℕ → List ℕ
seen_with seen pass = map (highest_with seen pass) (range_with_len 0 max_voters)

-- What a guard does with a pass that has a grant. It refuses one that shows an older grant of some voter
-- than it saw before. It admits any other one: under the next turn if the pass shows a newer grant, and
-- under the last turn again if it shows none. Afterwards the guard has seen the pass too.
pub record AdmitsPass (seen pass after : List ℕ) (last turn : ℕ) (result : ℤ) : Type 0 where
  pub older : Refuses seen pass → result ≡ refused OlderGrant
  pub again : Admits seen pass → RaisesNone seen pass
      → (result ≡ done) × (turn ≡ last) × IsGuard after (seen_with seen pass) last
  pub next : Admits seen pass → Raises seen pass → last + 1 < 2 ^ 64
      → (result ≡ done) × (turn ≡ last + 1) × IsGuard after (seen_with seen pass) (last + 1)
  pub spent : Admits seen pass → Raises seen pass → 2 ^ 64 ≤ last + 1 → result ≡ refused TurnsSpent

-- a guard is shown a pass, and `turn` is the turn that it gives
pub record FenceAdmits (before shown after : List ℕ) (turn : ℕ) (result : ℤ) : Type 0 where
  pub no_guard : length before ≢ guard_bytes → result ≡ refused BadState
  pub no_grants : length before ≡ guard_bytes → length shown ≢ grant_bytes → result ≡ refused BadArgument
  pub no_pass : (seen pass : List ℕ) (last : ℕ) → IsGuard before seen last → AreGrants shown pass → (HasGrant pass → ⊥)
      → result ≡ refused NoPass
  pub admits : (seen pass : List ℕ) (last : ℕ) → IsGuard before seen last → AreGrants shown pass → HasGrant pass
      → AdmitsPass seen pass after last turn result
