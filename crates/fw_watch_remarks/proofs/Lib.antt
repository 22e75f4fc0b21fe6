pub mod PartLaws
pub mod TextLaws
mod PlugLaws
