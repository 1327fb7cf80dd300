pub mod Consumption
pub mod Readable
pub mod Blocks
