pub mod Bitwise
pub mod HmacLemmas
