pub mod Counted
pub mod Joined
pub mod Sought
pub mod Taken
