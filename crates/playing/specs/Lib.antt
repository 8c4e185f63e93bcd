pub mod Rehearsal
pub mod Counting
