pub mod Lending
pub mod Promises
pub mod TwoWords
