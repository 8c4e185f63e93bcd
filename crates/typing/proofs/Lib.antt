pub mod Check
pub mod Derivation
pub mod Bag
pub mod Apart
