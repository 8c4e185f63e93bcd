pub mod Walk
pub mod Stops
pub mod Placed
pub mod Noted
pub mod Walking
