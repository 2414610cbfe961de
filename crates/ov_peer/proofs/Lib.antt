pub mod Failing
pub mod Following
pub mod Fronts
pub mod Needing
pub mod Telling
pub mod Calling
