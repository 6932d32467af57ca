-- How often another client enters while a request runs that every voter of its quorum knows: at most twice.
--
-- `Behind` has what holds while it runs. `Counting` counts the entries.
--
-- `patience` uses this for two clients that are live.
pub mod Behind
pub mod Counting
