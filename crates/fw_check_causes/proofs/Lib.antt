pub mod CableLaws
pub mod NodeLaws
pub mod RegisterLaws
pub mod Seen
pub mod ToldLaws
