pub mod Damage
pub mod Extents
pub mod Images
pub mod Laws
pub mod Records
