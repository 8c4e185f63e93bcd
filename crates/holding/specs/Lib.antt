pub mod Entry
pub mod View
pub mod AtRow
pub mod Partners
pub mod Doing
