pub mod Entries
pub mod Items
pub mod Lent
pub mod Marks
pub mod Merge
pub mod Moments
pub mod DueEntry
pub mod Slots
