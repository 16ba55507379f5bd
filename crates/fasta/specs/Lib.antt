pub mod Sizes
pub mod Says
