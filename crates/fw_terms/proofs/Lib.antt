pub mod Tables
pub mod Finds
pub mod KindLaws
