pub mod Renaming
pub mod Verdicts
pub mod Renamed
