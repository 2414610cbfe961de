pub mod MarkLaws
pub mod DistanceLaws
pub mod PathLaws
pub mod SealLaws
pub mod WalkLaws
pub mod EdgeLaws
pub mod WayBack
pub mod ShortestPaths
