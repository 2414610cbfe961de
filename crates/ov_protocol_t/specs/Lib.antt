pub mod Books
pub mod Premises
pub mod Replies
pub mod Transcripts
pub mod Tries
