pub mod Beginning
pub mod Faults
pub mod Intending
pub mod Opened
pub mod Planning
pub mod Replaying
pub mod Settling
pub mod Roots
