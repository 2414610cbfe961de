pub mod Causes
pub mod Listings
pub mod Telling
pub mod Questions
pub mod Texts
pub mod Answers
pub mod Reasons
