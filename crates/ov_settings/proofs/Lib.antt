pub mod Missing
pub mod OneReading
pub mod Whole
pub mod Workers
