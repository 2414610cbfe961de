pub mod Wanted
pub mod Coats
pub mod Tags
pub mod Laws
pub use Rattle.ov_ctr.specs.Ctr
