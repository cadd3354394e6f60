pub mod Conditions
pub mod Numbered
pub mod Numbers
pub mod Operators
pub mod Reader
pub mod Words
