pub mod Entries
pub mod Laws
pub mod Place
pub mod formers
