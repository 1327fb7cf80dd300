pub mod Lines
pub mod Says
pub mod Promises
pub mod Lengths
pub mod Counted
pub mod Apart
pub mod Agrees
pub mod Program
