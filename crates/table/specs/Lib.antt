pub mod Search
pub mod Bounds
pub mod Calls
pub mod Join
