pub mod TellingLaws
pub mod TellLaws
pub mod SayingLaws
pub mod EndLaws
