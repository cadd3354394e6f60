pub mod Lists
pub mod Joined
mod Lent
