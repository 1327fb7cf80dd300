pub mod Showing
pub mod Printing
pub mod Reporting
