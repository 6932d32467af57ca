-- Events of `sessions`, in which no voter loses its state, as events here.
use Rattle.std.specs.Prelude.{ℕ, ◌<◌}
use Rattle.sessions.specs.Tables as tables
use Rattle.lost_rows.specs.Voters.{Answer, Answers, Asks, Claims, Closes, Crashes, Drops, Event, Reserves, TakesBack}

-- the event of the same name
abbrev pub same_event : tables.Event → Event
same_event (tables.Claims v session epoch) = Claims v session epoch
same_event (tables.Reserves v session epoch stamp) = Reserves v session epoch stamp
same_event (tables.Closes v session epoch) = Closes v session epoch
same_event (tables.TakesBack v session epoch) = TakesBack v session epoch
same_event (tables.Drops v epoch stamp) = Drops v epoch stamp
same_event (tables.Answers v) = Answers v
same_event (tables.Crashes v) = Crashes v
same_event (tables.Asks session epoch stamp quorum) = Asks session epoch stamp quorum

-- the event is of a voter below this number, unless a session asks
abbrev pub IsOfFirst : ℕ → tables.Event → Type 0
IsOfFirst many (tables.Claims v session epoch) = v < many
IsOfFirst many (tables.Reserves v session epoch stamp) = v < many
IsOfFirst many (tables.Closes v session epoch) = v < many
IsOfFirst many (tables.TakesBack v session epoch) = v < many
IsOfFirst many (tables.Drops v epoch stamp) = v < many
IsOfFirst many (tables.Answers v) = v < many
IsOfFirst many (tables.Crashes v) = v < many
IsOfFirst many (tables.Asks session epoch stamp quorum) = Unit {0}

-- the answer, with no word of runs
abbrev pub same_answer : Answer → tables.Answer
same_answer a = record { voter = a.voter; row = a.row }
