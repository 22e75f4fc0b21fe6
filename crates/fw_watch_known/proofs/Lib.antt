pub mod FillLaws
pub mod LoopLaws
pub mod DueLaws
pub mod UsedLaws
pub mod Keeping
pub mod UsualLaws
pub mod SameWordLaws
pub mod ChangeLaws
