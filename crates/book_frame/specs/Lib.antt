pub mod Due
pub mod Distinct
pub mod Tally
pub mod Lent
