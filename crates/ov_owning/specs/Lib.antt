pub mod Causes
pub mod Endings
pub mod Intents
pub mod Owning
pub mod Printing
pub mod Running
pub mod Serving
pub mod Words
