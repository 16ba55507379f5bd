pub mod Digested
pub mod Digesting
pub mod Entering
pub mod Marking
pub mod Skipping
pub mod Still
pub mod Made
