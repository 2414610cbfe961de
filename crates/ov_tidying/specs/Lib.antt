pub mod Lines
pub mod Taking
pub mod Shorter
pub mod Promises
pub mod Writing
