pub mod Address
pub mod Asked
pub mod Hosts
pub mod Lines
pub mod Networks
pub mod Status
