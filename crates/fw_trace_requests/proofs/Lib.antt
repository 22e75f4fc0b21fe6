pub mod RowLaws
pub mod RequestLaws
pub mod PhraseLaws
