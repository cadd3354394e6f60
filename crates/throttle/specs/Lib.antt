pub mod Counting
pub mod Minutes
pub mod Telling
