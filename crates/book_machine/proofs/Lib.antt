pub mod Clearing
pub mod Counting
pub mod FirstKeys
pub mod Foresight
pub mod FoundAhead
pub mod Leading
pub mod Ranks
pub mod Walked
