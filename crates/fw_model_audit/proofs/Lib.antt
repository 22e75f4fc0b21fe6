pub mod Refusals
pub mod FaultsRefused
pub mod Requests
pub mod Responses
pub mod Judged
pub mod WatchedRegisters
pub mod Verdicts
pub mod Vouched
