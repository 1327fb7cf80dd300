pub mod Round
pub mod Shift
pub mod Sum
pub mod Told
