pub mod FillLaws
pub mod CodeLaws
pub mod MoveLaws
pub mod StageLaws
pub mod SkipLaws
pub mod PlaceLaws
