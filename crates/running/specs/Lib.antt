pub mod Entries
pub mod Premises
pub mod Rules
