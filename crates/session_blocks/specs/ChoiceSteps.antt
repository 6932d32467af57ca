-- What the calls by which a session chooses whom it asks return and write.
use Rattle.std.specs.Prelude.{ℕ, ℤ, ◌≡◌, Option, None, Some}
use Rattle.blocks.specs.Numbers.{done, refused}
use Rattle.blocks.specs.declared.refusal.Refusal.TheVariants.{BadArgument}

-- the place of the quorum that is chosen, if one is
pub record QuorumIsChosen (chosen : Option ℕ) (place : ℕ) (result : ℤ) : Type 0 where
  pub bad_argument : chosen ≡ None → result ≡ refused BadArgument
  pub chooses : (p : ℕ) → chosen ≡ Some p → (result ≡ done) × (place ≡ p)
