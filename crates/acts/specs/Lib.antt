pub mod Acts
pub mod Makes
pub mod Hears
pub mod Script
pub mod Cases
