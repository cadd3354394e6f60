pub mod Begins
pub mod Elisions
pub mod Groups
pub mod KeyBack
pub mod Numerals
pub mod RoundTrip
pub mod Strings
