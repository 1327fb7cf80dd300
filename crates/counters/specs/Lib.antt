pub mod Counters
pub mod Says
pub mod Laws
pub mod Cases
