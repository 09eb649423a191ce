pub mod Faults
pub mod Bytes
pub mod Files
pub mod Calls
pub mod Memory
pub mod MemoryFiles
pub mod Real
