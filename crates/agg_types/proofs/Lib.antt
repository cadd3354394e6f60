pub mod Columns
pub mod Checking
pub mod Fitting
pub mod Lists
pub mod Naming
pub mod Numbers
pub mod PackedWords
mod Packing
pub mod Removing
