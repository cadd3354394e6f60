pub mod Labels
pub mod Parts
pub mod Places
pub mod Standing
