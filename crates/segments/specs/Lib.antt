pub mod Segments
pub mod Lending
