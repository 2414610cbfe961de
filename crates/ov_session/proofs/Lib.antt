pub mod Answering
pub mod Doors
pub mod Filling
pub mod Gates
pub mod Going
pub mod Inputs
pub mod Mapping
pub mod Replying
