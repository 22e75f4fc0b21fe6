pub mod Tables
pub mod Devices
pub mod Labels
