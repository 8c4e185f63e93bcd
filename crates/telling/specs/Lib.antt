pub mod Found
pub mod Judgement
pub mod Loaded
pub mod Numbered
pub mod Reply
