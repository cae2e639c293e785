pub mod View
pub mod Contract
