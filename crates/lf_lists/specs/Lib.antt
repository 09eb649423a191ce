pub mod Learning
pub mod Hearing
pub mod Marks
pub mod Walking
pub mod Climbing
pub mod Known
pub mod Reading
