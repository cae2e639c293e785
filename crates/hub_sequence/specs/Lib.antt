pub mod Lists
pub mod Links
pub mod Contract
pub mod Stays
pub mod Examples
