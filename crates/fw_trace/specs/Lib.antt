pub mod Framing
pub mod Passed
pub mod Telling
pub mod Parts
pub mod Traces
pub mod Tracing
pub mod Laws
