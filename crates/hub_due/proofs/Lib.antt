pub mod Tables
pub mod Places
pub mod Restarts
pub mod Slots
