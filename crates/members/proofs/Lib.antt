pub mod ClerkLemmas
pub mod MemberLemmas
pub mod BlankLemmas
pub mod CountLemmas
pub mod RecordLemmas
