pub mod GoodLaws
pub mod PlaceLaws
pub mod GiveLaws
pub mod KeepingLaws
pub mod ChangeLaws
pub mod HalfLaws
