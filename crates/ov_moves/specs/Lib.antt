pub mod Bytes
pub mod Moves
pub mod Placing
pub mod Releasing
pub mod Rewriting
pub mod Runs
pub mod Standing
pub mod Updating
