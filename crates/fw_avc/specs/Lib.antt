pub mod Rows
pub mod Watched
pub mod State
pub mod Replies
pub mod Vendor
pub mod Notices
pub mod Lending
pub mod Laws
