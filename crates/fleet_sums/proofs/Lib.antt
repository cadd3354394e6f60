pub mod Columns
pub mod Histories
pub mod Keeping
pub mod Placing
