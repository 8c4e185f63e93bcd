pub mod Events
pub mod Translated
