pub mod Summary
pub mod Found
pub mod Reply
pub mod Writing
pub mod Trials
pub mod Idle
