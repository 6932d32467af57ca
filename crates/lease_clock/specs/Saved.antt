-- A clock as 38 numbers of 64 bits.
use Rattle.std.specs.Prelude.{ℕ, zero, suc, List, [], ◌∷◌}
use Rattle.lease_clock.specs.Clocks.{Clock, most_away}
use Rattle.lease_clock.specs.declared.marker.Marker.{Marker}

-- n slots for markers, each with its number and when it left: those of these markers, and then
-- empty ones
unfoldable pub slots : ℕ → List Marker → List ℕ
slots zero ms = []
slots (suc n) [] = 0 ∷ 0 ∷ slots n []
slots (suc n) (m ∷ ms) = m.number ∷ m.left ∷ slots n ms

-- the numbers of a clock: the period, what was skipped, the last marker, the newest that came back,
-- and those under way
abbrev pub words_of : Clock → List ℕ
words_of c = c.period ∷ c.skipped ∷ c.last.number ∷ c.last.left ∷ c.back.number ∷ c.back.left ∷ slots most_away c.away
