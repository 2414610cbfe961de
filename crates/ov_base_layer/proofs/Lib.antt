pub mod HolderLaws
pub mod SealLaws
