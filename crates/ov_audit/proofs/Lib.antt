pub mod MarkLaws
pub mod NoteLaws
pub mod FindingLaws
