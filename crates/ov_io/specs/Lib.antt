pub mod Calls
pub mod Files
pub mod Memory
pub mod Putting
pub mod Streams
pub mod Tells
