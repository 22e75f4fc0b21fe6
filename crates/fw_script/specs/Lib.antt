pub mod Laws
pub mod Leading
pub mod Line
pub mod Reader
pub mod Reading
pub mod Script
pub mod Passing
