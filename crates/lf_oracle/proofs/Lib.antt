pub mod Learning
pub mod LearntProofs
mod NearLemmas
