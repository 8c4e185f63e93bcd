pub mod Laws
pub mod Judged
pub mod Returned
