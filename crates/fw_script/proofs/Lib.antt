pub mod CallLaws
pub mod GivesLaws
pub mod LineLaws
pub mod PassLaws
pub mod ReadingLaws
pub mod ScriptLaws
pub mod StepLaws
