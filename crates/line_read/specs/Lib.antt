pub mod Places
pub mod View
