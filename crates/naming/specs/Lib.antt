pub mod Mirror
pub mod Called
