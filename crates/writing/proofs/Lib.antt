pub mod Carried
pub mod Flushed
pub mod Parts
