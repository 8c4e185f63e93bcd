pub mod Turn
pub mod Receiving
