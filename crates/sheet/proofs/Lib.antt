pub mod Days
pub mod Printing
pub mod Reading
pub mod Reporting
