pub mod LoopLaws
pub mod StandingLaws
pub mod LatestLaws
