pub mod KeyAnswer
pub mod Lists
pub mod Names
pub mod Tables
