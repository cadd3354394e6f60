pub mod Held
pub mod Leading
mod Filled
mod Apart
mod Own
mod Lent
mod Crowded
pub mod Sorted
pub mod Ordered
