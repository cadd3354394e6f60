pub mod Looks
pub mod Changing
