pub mod Ticking
pub mod Parting
