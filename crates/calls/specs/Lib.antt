pub mod Next
pub mod Request
