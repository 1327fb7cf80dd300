pub mod Filled
pub mod Passed
pub mod Made
