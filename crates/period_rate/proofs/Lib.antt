pub mod Falling
pub mod Moments
