pub mod Heads
pub mod Keys
