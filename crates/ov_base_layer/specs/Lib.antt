pub mod Holders
pub mod BaseContents
pub mod Seals
pub mod Laws
pub use Rattle.ov_graph.specs.Contents
