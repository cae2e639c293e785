pub mod PartLaws
pub mod Loops
pub mod Steps
pub mod Theorem
