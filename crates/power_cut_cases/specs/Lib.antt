pub mod RecordedFiles
pub mod MarkedForTheTable
pub mod UsedOnLists
