pub mod Reading
pub mod Answers
pub mod Tokens
pub mod ReadBack
