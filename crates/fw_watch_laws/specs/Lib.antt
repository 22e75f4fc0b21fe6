pub mod LastKnown
pub mod ChangedUnseen
pub mod TwoSenders
pub mod Orderly
