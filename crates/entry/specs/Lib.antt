pub mod Says
pub mod Store
