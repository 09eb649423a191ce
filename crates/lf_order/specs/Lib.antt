pub mod TotalOrders
