pub mod Since
pub mod Claims
pub mod Marked
