pub mod Pruned
pub mod Counted
