pub mod Requests
pub mod Standing
