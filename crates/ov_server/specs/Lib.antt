pub mod Telling
pub mod Answering
pub mod Following
pub mod Locally
