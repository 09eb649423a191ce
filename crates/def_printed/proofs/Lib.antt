pub mod Kit
pub mod Prints
