pub mod States
pub mod Found
pub mod Same
