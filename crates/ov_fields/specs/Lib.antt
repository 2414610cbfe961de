pub mod Answers
pub mod Entries
pub mod Fronts
pub mod Reading
pub mod Spelling
