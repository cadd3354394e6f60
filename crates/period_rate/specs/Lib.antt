pub mod Share
pub mod Rate
pub mod Words
