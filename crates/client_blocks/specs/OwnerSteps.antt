-- What the call returns and writes by which a session sees whom it may ask.
use Rattle.std.specs.Prelude.{ℕ, ℤ, ◌≡◌, List}
use Rattle.numbers.specs.Sets.{members_of}
use Rattle.own_stamps.specs.Stamps.{owners}
use Rattle.own_stamps.specs.declared.stamps.OwnStamps.{OwnStamps}
use Rattle.blocks.specs.Numbers.{done, refused}
use Rattle.blocks.specs.declared.refusal.Refusal.TheVariants.{BadState}
use Rattle.client_blocks.specs.Bytes.{AreAllStamps, AreNotAllStamps}

-- the voters at which the stamp is the session's own, as a mask
pub record StampsShowOwners (bytes : List ℕ) (stamp voters : ℕ) (result : ℤ) : Type 0 where
  pub no_stamps : AreNotAllStamps bytes → result ≡ refused BadState
  pub shows : (kept : List OwnStamps) → AreAllStamps bytes kept → (result ≡ done) × (members_of voters ≡ owners kept stamp)
