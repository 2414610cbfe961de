pub mod Updates
pub mod Stores
pub mod OpenStores
pub mod Refusals
pub mod Endings
pub mod Judged
