pub mod Archive
pub mod Promises
pub mod Trips
