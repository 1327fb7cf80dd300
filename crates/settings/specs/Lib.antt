pub mod Table
pub mod Columns
pub mod Says
pub mod Ranges
pub mod Named
pub mod Good
pub mod Cases
