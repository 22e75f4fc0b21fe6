pub mod Texts
pub mod Words
pub mod Converting
pub mod Swapped
pub mod Stops
pub mod Pages
pub mod Paged
pub mod Marks
