pub mod Setup
pub mod Says
pub mod Cases
pub mod Keeps
pub mod Promises
pub mod Determined
