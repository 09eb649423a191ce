pub mod Numbers
pub mod Orders
pub mod TotalOrders
pub mod Reach
pub mod Low
pub mod Indexed
pub mod Applied
pub mod Near
