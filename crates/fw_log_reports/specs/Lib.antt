pub mod Texts
pub mod Watching
pub mod Silences
pub mod Verdicts
pub mod Trees
pub mod Maps
pub mod Holdings
pub mod Unsounds
