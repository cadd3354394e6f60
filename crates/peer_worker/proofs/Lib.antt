pub mod Ends
pub mod Facts
pub mod Tellings
pub mod Works
pub mod Saying
pub mod Spoken
pub mod Pulses
pub mod Moving
