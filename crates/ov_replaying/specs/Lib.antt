pub mod Opening
pub mod Reading
pub mod KeyFiles
pub mod Statuses
