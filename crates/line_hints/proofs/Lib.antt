pub mod ReasonLaws
pub mod Theorem
