pub mod Logs
pub mod Views
pub mod Rule
pub mod Passes
pub mod Steps
