pub mod Sight
pub mod SightLaws
pub mod SightNext
pub mod Told
