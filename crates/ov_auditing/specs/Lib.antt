pub mod AuditWords
pub mod Lines
pub mod Exposed
pub mod Following
pub mod Promises
