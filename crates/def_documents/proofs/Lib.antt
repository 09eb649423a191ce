pub mod Pruned
pub mod Removed
pub mod Written
pub mod Documents
pub mod Keys
pub mod OrderedKit
pub mod OrderedValues
pub mod OrderedNodes
