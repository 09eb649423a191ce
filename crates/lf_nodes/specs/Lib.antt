pub mod Asked
pub mod Keys
pub mod Properties
pub mod Pointing
pub mod Among
