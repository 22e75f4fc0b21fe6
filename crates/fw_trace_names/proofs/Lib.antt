pub mod LoopLaws
pub mod RowLaws
