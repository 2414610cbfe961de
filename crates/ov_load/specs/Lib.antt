pub mod LoadEnding
pub mod LoadWords
pub mod Loading
pub mod Summary
pub mod Tallying
