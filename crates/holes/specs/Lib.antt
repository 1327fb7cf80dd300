pub mod Holes
pub mod HoleLaws
pub mod Marks
pub mod MarkLaws
pub mod Promises
