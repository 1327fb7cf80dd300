pub mod Modbus
pub mod Says
pub mod Laws
pub mod Cases
pub mod Determined
