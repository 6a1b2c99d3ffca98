pub mod Evidence
pub mod Replies
pub mod Promised
pub mod Unread
