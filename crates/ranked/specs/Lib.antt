pub mod Best
pub mod Bounds
pub mod Leaders
pub mod Walk
