-- Worlds in which saved states were lost: what still holds, and what it costs.
--
-- A voter that forgot that it asked for its vote may waste one block: its grant is *old*. There are at most as many old grants
-- as voters, and they do not come back (`Olds`). `Forgetting` and `Losses` say what holds after crashes, restarts and losses, so
-- that the laws on rounds hold then, too.
--
-- `Lasting` says what clients and grants keep from one world to a later one.
pub mod Forgetting
pub mod Lasting
pub mod Losses
pub mod Olds
