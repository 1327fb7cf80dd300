pub mod Parsing
pub mod Numbers
pub mod Bytes
