pub mod Form
pub mod Keyword
pub mod Laws
pub mod Names
pub mod Pieces
pub mod Types
pub mod Words
