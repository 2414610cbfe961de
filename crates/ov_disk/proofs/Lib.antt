pub mod Fronts
pub mod Runs
pub mod Stops
pub mod Tapes
pub mod Unordered
pub mod Writing
