pub mod Why
pub mod Examples
pub mod Claims
