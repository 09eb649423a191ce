pub mod Entries
pub mod Gathering
pub mod Maps
pub mod Room
pub mod Sheets
