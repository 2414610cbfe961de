pub mod FirstFile
pub mod Gates
