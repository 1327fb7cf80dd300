pub mod Reading
pub mod Choosing
