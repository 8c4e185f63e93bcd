pub mod Scanned
pub mod Parts
