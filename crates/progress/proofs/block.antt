-- One block of rounds: why a request begins or ends in it that is not later than a given one which runs.
--
-- In a `Tame` stretch no request up to a stamp begins or ends. After one round each of them is known everywhere (`Known`). The
-- one that precedes all others known gets its votes: of a voter whose grant is not behind it they stay ahead (`Ahead`,
-- `Leading`), a vote that a later request has comes back within seven rounds (`Overdue`), and each round frees one that an older
-- request holds (`Winning`). `Steady` says what a stretch does to these votes.
--
-- `Blocks` puts this together: a block in which nothing of this comes about does not exist, unless an old grant is given back.
pub mod Ahead
pub mod Blocks
pub mod Known
pub mod Leading
pub mod Overdue
pub mod Steady
pub mod Tame
pub mod Winning
