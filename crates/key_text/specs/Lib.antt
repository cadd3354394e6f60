pub mod Elided
pub mod Printed
pub mod Read
