pub mod LineLaws
pub mod Told
pub mod Loops
