pub mod Kept
pub mod Framed
pub mod Commanded
