pub mod Pieces
pub mod Bytewise
pub mod Handing
