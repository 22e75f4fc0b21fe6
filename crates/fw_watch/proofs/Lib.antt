pub mod WatchLaws
pub mod HeldLaws
pub mod SwapLaws
pub mod PutLaws
pub mod StepLaws
pub mod OnlyLaws
