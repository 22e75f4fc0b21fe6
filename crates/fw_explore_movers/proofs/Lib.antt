pub mod HalfStepLaws
pub mod ReadsLaws
pub mod TakeLaws
