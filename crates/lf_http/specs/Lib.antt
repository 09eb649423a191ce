pub mod Bodies
pub mod Fields
pub mod Judge
pub mod Reading
pub mod Readings
pub mod Reply
pub mod ShortText
pub mod Shown
