pub mod Distance
pub mod Remaining
pub mod HalfSteps
pub mod Rounds
pub mod Accounts
pub mod Settling
pub mod Table
pub mod Laws
