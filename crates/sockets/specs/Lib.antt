pub mod HttpLines
