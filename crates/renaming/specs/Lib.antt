pub mod Slot
pub mod Renaming
pub mod Verdict
pub mod Renamed
pub mod Trials
pub mod Idle
