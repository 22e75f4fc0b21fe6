pub mod Names
pub mod Registers
pub mod CausedLines
