pub mod Orders
pub mod Chains
pub mod Room
pub mod Trees
pub mod Kept
