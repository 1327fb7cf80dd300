pub mod Choice
pub mod ChoiceLaws
pub mod Says
pub mod Promises
