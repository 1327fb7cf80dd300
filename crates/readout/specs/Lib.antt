pub mod Readout
pub mod Says
pub mod Laws
pub mod Cases
