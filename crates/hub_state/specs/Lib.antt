pub mod View
pub mod Valid
pub mod Contract
pub mod Unmoved
pub mod Unanswered
pub mod Examples
pub mod Props
