pub mod Signed
