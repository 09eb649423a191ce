pub mod Counts
pub mod Pruned
