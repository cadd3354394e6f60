pub mod Columns
pub mod Declarations
pub mod Filters
pub mod ReadResults
pub mod Faults
pub mod Lines
pub mod Reading
pub mod Written
