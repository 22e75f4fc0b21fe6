pub mod Rows
pub mod Log
pub mod Network
pub mod Laws
