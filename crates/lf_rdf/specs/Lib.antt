pub mod Vocabulary
pub mod Equality
pub mod Canonical
