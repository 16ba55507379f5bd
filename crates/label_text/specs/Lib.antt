pub mod Lines
pub mod Packing
pub mod Says
pub mod Examples
