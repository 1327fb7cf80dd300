pub mod Tallying
pub mod Settling
pub mod Passing
pub mod Among
