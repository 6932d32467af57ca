pub mod Words
pub mod Votes
pub mod Register
pub mod Giving
pub mod RootFields
pub mod Ends
pub mod VoterFields
pub mod KeptLaws
