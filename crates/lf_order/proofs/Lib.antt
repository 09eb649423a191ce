pub mod Ties
pub mod SetLemmas
