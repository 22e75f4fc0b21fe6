pub mod Desks
pub mod Systems
pub mod Transports
pub mod Motion
pub mod Blocks
pub mod TimeCodes
pub mod Rows
pub mod Commands
