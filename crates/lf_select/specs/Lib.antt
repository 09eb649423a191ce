pub mod Keys
pub mod Shelves
pub mod Names
pub mod Prefixes
pub mod Shortest
pub mod Inverse
