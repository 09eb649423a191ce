mod Documents
pub mod Sends
