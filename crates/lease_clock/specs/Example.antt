-- A client that works, and later does not, as the voter let its grant go.
use Rattle.std.specs.Prelude.{List, [], ◌∷◌}
use Rattle.lease_clock.specs.Leases.{Beats, Event, Hears, LetsGo, Marked, Marks, Passes, Renews}

-- The client's heartbeat is acknowledged. The client's clock is slower than the voter's by a tenth.
abbrev pub works : List Event
works = Marks ∷ Passes 10 9 ∷ Marked 1 ∷ Beats ∷ Passes 10 9 ∷ Hears 109 ∷ Passes 10 9 ∷ Renews 109 ∷ []

-- Then nothing is heard of it any more, while two markers come back.
abbrev pub is_let_go : List Event
is_let_go = Marks ∷ Passes 50 45 ∷ Marked 2 ∷ Marks ∷ Passes 50 45 ∷ Marked 3 ∷ Marks ∷ Passes 10 9 ∷ Marked 4 ∷ LetsGo ∷ []
