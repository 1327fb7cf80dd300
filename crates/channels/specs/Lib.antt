pub mod Channels
pub mod Says
pub mod Laws
pub mod Cases
