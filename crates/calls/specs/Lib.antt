pub mod Call
pub mod Reads
pub mod Reading
pub mod Cases
