pub mod Spelled
pub mod Named
pub mod Explained
pub mod Spaced
