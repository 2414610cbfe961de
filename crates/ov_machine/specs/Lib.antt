pub mod Disks
pub mod Frames
pub mod Machine
pub mod Replying
pub mod Seats
pub mod Sinks
pub mod Steps
