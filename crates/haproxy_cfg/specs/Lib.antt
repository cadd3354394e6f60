pub mod Values
pub mod Arrays
pub mod Tables
pub mod Sections
