pub mod Clock
pub mod Marking
pub mod Keeps
pub mod Part
pub mod Cases
