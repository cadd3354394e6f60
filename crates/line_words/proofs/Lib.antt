pub mod Checked
pub mod Digits
pub mod Splitting
pub mod TextLines
pub mod NamesBack
pub mod WordsBack
pub mod ConditionsBack
