pub mod Keys
pub mod Labels
pub mod Xor
pub use Rattle.ov_keyed.specs.Hmac
