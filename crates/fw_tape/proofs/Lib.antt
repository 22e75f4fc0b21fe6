pub mod BlockLaws
pub mod RowLaws
pub mod FrameLaws
