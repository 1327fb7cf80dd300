pub mod Kept
pub mod Walk
pub mod Records
pub mod Products
pub mod Holes
pub mod Lines
pub mod Proved
