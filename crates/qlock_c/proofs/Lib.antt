pub mod CallLemmas
pub mod ClientLines
pub mod LineLengths
pub mod ReplyLines
