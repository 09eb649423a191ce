pub mod ErrorName
pub mod JsonBridge
pub mod JsonData
pub mod TreeBridge
pub mod TreeData
pub mod ValueBridge
pub mod ValueData
