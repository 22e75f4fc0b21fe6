pub mod ReadLaws
pub mod SpelledLaws
pub mod SameLaws
pub mod StreamLaws
