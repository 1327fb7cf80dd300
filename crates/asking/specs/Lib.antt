pub mod Asking
pub mod Says
pub mod Laws
pub mod Cases
