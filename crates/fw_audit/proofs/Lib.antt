pub mod AnswerLaws
pub mod Audits
pub mod LabelLaws
pub mod RefusalLaws
pub mod SoundLaws
pub mod Verdicts
