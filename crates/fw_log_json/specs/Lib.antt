pub mod Ids
pub mod Objects
pub mod Laws
