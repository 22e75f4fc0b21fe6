pub mod LoopLaws
pub mod JobLaws
pub mod CountLaws
pub mod ReplyLaws
pub mod TrafficLaws
