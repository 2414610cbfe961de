pub mod Following
pub mod GoingOn
pub mod Untold
pub mod OneChain
pub mod OneAnswer
pub mod OneReply
pub mod Reading
pub mod Leaving
pub mod Removing
mod Rows
