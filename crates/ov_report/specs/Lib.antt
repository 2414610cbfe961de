pub mod Words
pub mod Faults
pub mod Ends
pub mod Laws
