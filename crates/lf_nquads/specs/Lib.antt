pub mod Written
pub mod Outcomes
pub mod Gives
pub mod Scanning
pub mod Patches
pub mod Laws
