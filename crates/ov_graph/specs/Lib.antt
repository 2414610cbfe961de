pub mod Cover
pub mod Candidates
pub mod Reach
pub mod Contents
pub mod Seals
pub mod Chain
pub mod Rows
pub use Rattle.ov_base.specs.Sets
