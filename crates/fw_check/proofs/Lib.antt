pub mod Joins
pub mod ListLaws
pub mod MisfitLaws
pub mod ShownLaws
pub mod SlipLaws
