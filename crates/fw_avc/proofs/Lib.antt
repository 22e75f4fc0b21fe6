pub mod NoticeLaws
pub mod VendorLaws
pub mod TapeLaws
pub mod FitLaws
pub mod UnitLaws
pub mod TellLaws
pub mod TapeRulings
