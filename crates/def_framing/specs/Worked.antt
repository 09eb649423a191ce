-- Worked cases: what the definitions make of small datasets.
pub mod Words
pub mod Library
pub mod Shared
pub mod Defaults
pub mod Graphs
pub mod Patterns
pub mod FlagCases
pub mod Limits
pub mod Chains
pub mod Edges
pub mod NearFrames
