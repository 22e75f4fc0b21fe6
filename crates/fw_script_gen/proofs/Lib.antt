pub mod GenLaws
pub mod LengthLaws
pub mod TallyLaws
