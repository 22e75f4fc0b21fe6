pub mod WordLaws
pub mod KeepLaws
