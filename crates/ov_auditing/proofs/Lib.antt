pub mod Followed
pub mod Texts
pub mod Namings
pub mod Steps
pub mod Printed
pub mod Beginnings
pub mod Endings
mod ListTexts
pub mod Asking
pub mod WordTexts
