pub mod BriefLaws
pub mod BriefPlaces
pub mod ByBrief
pub mod UpdateLaws
pub mod UpdatePlaces
