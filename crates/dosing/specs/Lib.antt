pub mod Rules
pub mod Calls
pub mod Gates
pub mod Ways
pub mod Laws
pub mod Cases
