pub mod Chosen
pub mod Counting
pub mod Listings
pub mod Written
