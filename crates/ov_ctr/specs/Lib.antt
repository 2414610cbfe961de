pub mod Ctr
pub mod Laws
pub mod Steps
