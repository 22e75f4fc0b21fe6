pub mod LifeRules
pub mod FirstBroken
pub mod TransactionRules
pub mod DeckRules
pub mod CandidateRules
pub mod ConnectionRules
pub mod Shown
pub mod RoundRules
