pub mod Told
pub mod Accepting
