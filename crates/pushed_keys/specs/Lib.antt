pub mod Packed
pub mod Changed
pub mod Rules
pub mod Stands
pub mod Turns
pub mod Pushes
pub mod Moves
pub mod Passed
