pub mod Key
pub mod Examples
