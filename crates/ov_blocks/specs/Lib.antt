pub mod Extents
pub mod Gaps
pub mod Laws
pub mod Places
pub mod Slots
pub mod Writes
