pub mod Hosts
pub mod Targets
