pub mod Scans
pub mod Counted
pub mod Tests
