pub mod Crc
pub mod CrcLaws
pub mod Asks
pub mod AsksLaws
pub mod Replies
pub mod RepliesLaws
pub mod Says
