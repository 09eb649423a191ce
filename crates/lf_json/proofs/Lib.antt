pub mod Walks
pub mod Compact
pub mod Going
pub mod Printing
pub mod Decimals
pub mod ReadBackLemmas
pub mod KeyOrder
