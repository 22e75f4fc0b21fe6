pub mod Tcode
pub mod NodeIds
pub mod Data
pub mod Reading
