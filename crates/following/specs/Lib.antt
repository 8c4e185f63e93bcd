pub mod Agreeing
pub mod Stepping
