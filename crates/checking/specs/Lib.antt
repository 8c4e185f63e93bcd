pub mod Large
pub mod Lines
pub mod Finding
