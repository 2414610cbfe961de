pub mod Accepting
pub mod Serving
pub mod Sharing
pub mod Lasting
pub mod Hosting
