pub mod SizeLaws
pub mod WriteLaws
pub mod LogLaws
pub mod RowLaws
mod TableLaws
