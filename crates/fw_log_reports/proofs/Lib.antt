pub mod Passings
pub mod Audits
pub mod TreeLaws
pub mod WholeLaws
pub mod WholePassings
pub mod PassedAudits
pub mod PassedHoldings
