pub mod Marks
pub mod Ends
