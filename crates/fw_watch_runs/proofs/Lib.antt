pub mod Common
pub mod RunsElsewhere
pub mod Labelled
pub mod RunsLabelled
pub mod Judged
