pub mod Agreement
pub mod Orders
