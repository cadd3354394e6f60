pub mod Numbered
pub mod Noting
