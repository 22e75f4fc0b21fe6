pub mod TailLaws
pub mod Digits
pub mod JoinLaws
