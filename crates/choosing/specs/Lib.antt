pub mod Named
pub mod Kinds
pub mod Choose
