pub mod Tellings
pub mod Completions
pub mod WordLaws
pub mod Servings
pub mod Doings
pub mod RunTrees
