pub mod Exposure
pub mod Auditing
pub mod Hoarding
pub mod Staying
