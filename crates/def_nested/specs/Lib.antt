pub mod Nested
pub mod Unfolding
pub mod Laws
