pub mod Files
pub mod HelpRequests
pub mod Listening
pub mod Reasons
pub mod Statuses
