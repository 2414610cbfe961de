pub mod Pad
pub mod Places
pub mod Groups
