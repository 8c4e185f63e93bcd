pub mod Own
pub mod Place
