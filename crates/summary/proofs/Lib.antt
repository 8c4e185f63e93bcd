pub mod Held
pub mod Summary
pub mod Replies
