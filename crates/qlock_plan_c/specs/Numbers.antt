-- The numbers that calls return to C.
use Rattle.std.specs.Prelude.{ℕ, ℤ, ◌≡◌, pos}
use Rattle.qlock_plan_c.specs.declared.outcome.Outcome.{Outcome}
use Rattle.qlock_plan_c.specs.declared.outcome.Outcome.TheVariants.{Done, BadArgument, NoRoom, Refused, NoMemory}

-- the number of an outcome, as in include/qlock.h and include/qlock_plan.h
abbrev pub number_of : Outcome → ℕ
number_of Done = 0
number_of BadArgument = 1
number_of NoRoom = 4
number_of Refused = 11
number_of NoMemory = 12

-- the number that was returned stands for an outcome, and this holds for it
pub record Returns (number : ℤ) (holds : Outcome → Type 0) : Type 0 where
  pub outcome : Outcome
  pub numbered : number ≡ pos (number_of outcome)
  pub is_so : holds outcome
