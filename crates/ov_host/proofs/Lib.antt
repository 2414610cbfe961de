pub mod Endings
pub mod Lasting
pub mod Surviving
pub mod Accepting
pub mod SharedValues
pub mod Served
