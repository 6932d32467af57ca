-- The state of a clerk that draws all tickets of an office.
use Rattle.std.specs.Prelude.{ℕ, ◌-◌, map}
use Rattle.std.specs.List.{range_with_len}
use Rattle.dealer.specs.Offices.{OfficeName, ClerkState, receipt_of}

-- a clerk with this quota of an office, after it drew the tickets below n
abbrev pub after_draws : OfficeName → ℕ → ℕ → ClerkState
after_draws office quota n =
    record { office = office; rest = quota - n; receipts = map (receipt_of office.cycle) (range_with_len 0 n) }
