pub mod Notes
pub mod Findings
pub mod Seen
pub mod Marks
pub mod Looks
