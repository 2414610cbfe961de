pub mod Answering
pub mod Endings
pub mod Machine
pub mod Performing
pub mod Scripting
