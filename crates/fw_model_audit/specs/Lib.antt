pub mod Looked
pub mod Faults
pub mod Judged
pub mod Audited
