pub mod Layout
pub mod Values
pub mod Straight
pub mod Plan
pub mod Along
pub mod Lack
