pub mod CycleLemmas
pub mod AccountLemmas
pub mod RatioLemmas
pub mod TurnLemmas
mod BlockLemmas
mod MadeBlocks
mod SearchLemmas
mod ReceiptLemmas
mod TicketSteps
mod WholeAccounts
