pub mod Parts
pub mod Contract
pub mod Claims
pub mod Examples
