pub mod FieldLines
pub mod Found
pub mod Lists
pub mod Names
pub mod Onward
pub mod Powers
pub mod Streams
