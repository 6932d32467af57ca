-- Rounds as such: that there are some, how many grants they take, and ways in.
--
-- `Making` and `Spending` make fair rounds and count their grants, `WaysIn` cuts them before the first entry: so the laws that
-- name a way are corollaries. `LiveMaking`, `LiveMade`, `LiveTimely` and `LiveSpending` do the same for live rounds of moves, in
-- which clients that are stuck give up, and grants of who is not live are let go.
--
-- `Fair` says that fair rounds are live ones in which everybody is live, `Longer` and `Reminders` that rounds may be longer, and
-- `Parts` cuts a list of rounds in two.
pub mod Fair
pub mod LiveMade
pub mod LiveMaking
pub mod LiveSpending
pub mod LiveTimely
pub mod Longer
pub mod Making
pub mod Parts
pub mod Reminders
pub mod Spending
pub mod WaysIn
