pub mod Later
pub mod Owns
pub mod Pieces
pub mod Sent
