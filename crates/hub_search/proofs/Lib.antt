pub mod Slots
pub mod Back
pub mod Commands
pub mod SearchLaws
pub mod Found
