mod Blobs
mod Books
mod BothFormats
mod Damaged
mod OneFile
pub mod RefusalWords
mod Removed
mod Replaced
mod StepPlaces
mod ThreeFiles
mod UsedAgain
pub mod WantedOrder
