-- What a call that is refused leaves.
use Rattle.std.specs.Prelude.{ℤ, ◌≡◌, ◌≢◌, OnErr, Result, Ok, Err}
use Rattle.blocks.specs.Numbers.{done, returned}
use Rattle.blocks.specs.declared.refusal.Refusal.{Refusal}

-- what holds of each call that failed holds if its number is not that of a call that was done
pub refused_by : {A : Type 0} (call : Result A Refusal) (P : Type 0) (n : ℤ) → n ≡ returned call → OnErr call P → n ≢ done → P
refused_by (Ok x) P n is on fails = absurd (fails is)
refused_by (Err refusal) P n is on fails = on
