pub mod Rows
pub mod Table
pub mod Says
pub mod Report
pub mod Promises
