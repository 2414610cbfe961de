pub mod Serving
pub mod Asking
pub mod Updating
pub mod Reading
pub mod Pages
pub mod Answers
pub mod Replies
pub mod Laws
