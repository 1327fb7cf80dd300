pub mod Sign
pub mod Answers
