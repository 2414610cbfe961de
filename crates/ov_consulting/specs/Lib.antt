pub mod Answers
pub mod Consulting
pub mod Endings
pub mod Gathering
pub mod Pending
pub mod Printing
pub mod Saying
pub mod Words
