pub mod Lines
pub mod Places
pub mod Intake
pub mod Cases
