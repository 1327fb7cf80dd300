pub mod Scale
pub mod Says
pub mod Laws
pub mod Cases
