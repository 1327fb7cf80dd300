pub mod Listening
pub mod Feeding
