pub mod Faults
pub mod Framing
pub mod Status
pub mod Manners
pub mod Commands
pub mod Commanding
