pub mod Recording
pub mod Noting
pub mod Keeps
pub mod Feed
pub mod Cases
