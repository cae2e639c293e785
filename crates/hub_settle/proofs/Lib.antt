pub mod MarkLaws
pub mod RestartLaws
pub mod StateLaws
pub mod LeaveLaws
pub mod SettleLaws
