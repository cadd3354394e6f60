pub mod First
pub mod Parts
pub mod Looks
pub mod Measures
pub mod Rates
pub mod Shown
