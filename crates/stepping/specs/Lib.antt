pub mod Stepping
pub mod Says
pub mod Cases
