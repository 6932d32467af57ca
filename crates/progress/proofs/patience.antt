-- Counting: how many blocks a client waits at most, so the numbers of rounds of the laws.
--
-- A *turn* of a client is that it begins or stops to ask (`Turns`). Ahead of a request that is known everywhere it turns three
-- times, and twice more for each hasty withdrawal (`Counted`), since a request that ran for two rounds has heard of it
-- (`Hearing`). k blocks have k turns: so somebody has entered (`Waiting`), and so has whoever asks (`Patient`).
--
-- `Bounds` has the numbers for schedules without late REQUESTs.
pub mod Bounds
pub mod Counted
pub mod Hearing
pub mod Patient
pub mod Turns
pub mod Waiting
