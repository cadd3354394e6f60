pub mod Checked
pub mod Joined
pub mod Known
pub mod Reporting
