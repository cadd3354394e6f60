pub mod First
pub mod Heads
pub mod Listing
pub mod Placed
pub mod Planned
pub mod Shown
pub mod Store
