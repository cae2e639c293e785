pub mod Rows
pub mod Copy
