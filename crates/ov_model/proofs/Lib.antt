pub mod Agreement
pub mod Alike
pub mod Legality
mod Rows
pub mod Runs
pub mod Since
pub mod Spellings
pub mod Steps
pub mod Streams
