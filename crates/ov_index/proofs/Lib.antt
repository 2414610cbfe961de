pub mod OrderLaws
pub mod PlaceLaws
pub mod NodeLaws
pub mod SortedLists
pub mod LargerFirst
pub mod KeepSteps
pub mod AddLaws
pub mod AgreementLaws
