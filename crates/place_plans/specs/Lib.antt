pub mod Plans
pub mod Links
pub mod Rounding
pub mod Forms
