pub mod Joins
pub mod IsoTexts
pub mod SwapTexts
pub mod HeadTexts
pub mod CipTexts
pub mod StandingKinds
pub mod UsualTexts
