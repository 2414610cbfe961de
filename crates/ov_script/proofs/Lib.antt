mod Beginning
mod Bodies
pub mod ByteTexts
mod Bytes
mod Completions
mod Continuations
pub mod CreateLaws
mod Decided
mod Deciding
mod Draws
mod FirstLines
mod Fitting
mod Fronts
pub mod Grammar
mod LineFits
mod LineLaws
mod ListReading
mod ListTexts
mod NameFits
mod NameFronts
pub mod Readings
mod Needing
mod Sayings
mod Searches
mod ShortScripts
mod SizeFits
mod SizeFronts
mod Sizes
mod Taking
mod Using
mod WholeItems
mod WordBytes
mod WordFits
pub mod WorkloadItems
mod WorkloadNames
