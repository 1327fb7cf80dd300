pub mod Message
pub mod Says
pub mod BuildSplit
