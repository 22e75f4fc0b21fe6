pub mod MarkLaws
pub mod EndLaws
