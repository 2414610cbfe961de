pub mod Moments
pub mod Naming
pub mod GivenAway
pub mod FirstMoments
pub mod Noting
pub mod Following
pub mod Meeting
pub mod Finding
pub mod GivenBytes
pub mod Publishing
mod Rows
