pub mod Bools
pub mod Matched
pub mod OnPath
pub mod Counting
pub mod Sizes
pub mod Counted
pub mod Agreeing
pub mod Nesting
