pub mod Walk
pub mod Path
pub mod Marks
pub mod Distances
