pub mod Turning
pub mod Smaller
