pub mod Reasons
pub mod Says
pub mod Weights
pub mod Answers
pub mod Same
pub mod Promises
pub mod Since
pub mod Cases
