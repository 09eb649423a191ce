pub mod Answering
pub mod Lone
