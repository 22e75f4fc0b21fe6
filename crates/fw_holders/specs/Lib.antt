pub mod Held
pub mod Moves
pub mod Deeds
pub mod Seated
pub mod Counts
pub mod Table
pub mod Found
pub mod Told
