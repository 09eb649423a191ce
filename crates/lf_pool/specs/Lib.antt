pub mod OneTurn
pub mod Causes
