pub mod Among
pub mod Parts
pub mod Ready
pub mod Surveyed
