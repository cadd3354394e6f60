pub mod Keys
pub mod Written
pub mod Heard
pub mod Session
pub mod Receiver
