pub mod First
pub mod Choosing
pub mod Filed
pub mod Named
pub mod Cut
pub mod Grouped
pub mod FirstFree
pub mod Nearest
