pub mod Lines
pub mod Acts
pub mod Theorem
pub mod Worlds
