pub mod Lines
pub mod Sources
pub mod Told
pub mod Traffic
pub mod Moments
pub mod Writing
