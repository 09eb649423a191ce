pub mod Members
pub mod Least
pub mod Fits
pub mod Shortened
pub mod RoundTrip
