pub mod Addresses
pub mod Commands
pub mod NetworkNumbers
pub mod NetworkTexts
pub mod Told
