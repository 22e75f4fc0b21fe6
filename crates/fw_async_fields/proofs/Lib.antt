pub mod Common
pub mod ReadingLaws
pub mod SoundLaws
pub mod NeedLaws
pub mod NodeLaws
