pub mod Transcripts
pub mod Talking
pub mod Bytes
pub mod Laws
