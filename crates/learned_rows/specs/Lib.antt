pub mod Alike
pub mod Judging
