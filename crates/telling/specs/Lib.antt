pub mod Told
pub mod Telling
pub mod Among
pub mod Unsaid
pub mod Down
