pub mod Requests
pub mod Answers
pub mod Carried
pub mod Phrases
pub mod Replies
pub mod Held
