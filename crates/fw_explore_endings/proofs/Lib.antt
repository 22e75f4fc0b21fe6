pub mod RowsLaws
pub mod MovesLaws
pub mod GrowLaws
pub mod NamesLaws
pub mod PutLaws
