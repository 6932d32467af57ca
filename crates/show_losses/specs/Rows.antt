-- The lines of the table of losses.
use Rattle.std.specs.Prelude.{◌≡◌, ℕ, ◌*◌, ◌/◌, min, max}
use Rattle.certificate.specs.Certificates.{Weighted}
use Rattle.losses.specs.Losses.{load_left, tickets_left}
use Rattle.losses.specs.Regrets.{regret_at}
use Rattle.losses.specs.declared.failure.Failure.{Failure}
use Rattle.show_losses.specs.declared.rows.Row.{Row}

-- a quotient in thousandths, rounded down, at most 10^12; a divisor of 0 counts as 1
abbrev pub thousandths : ℕ × ℕ → ℕ
thousandths r = min (r.0 * 1000 / max r.1 1) 1000000000000

-- The line has how many tickets the failure leaves, their load, the best load without its voters and whether
-- it is known to be that, and the first load divided by the second, in thousandths.
pub record IsRow (w : Weighted) (failure : Failure) (row : Row) : Type 0 where
  pub tickets : row.tickets ≡ tickets_left failure.down w
  pub load : row.load ≡ load_left failure.down w
  pub best : row.best ≡ failure.best
  pub is_best : row.is_best ≡ failure.is_best
  pub times : row.times ≡ thousandths (regret_at w failure)
