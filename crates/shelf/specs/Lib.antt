pub mod Filled
pub mod Lines
pub mod Next
pub mod Turns
pub mod Shelf
