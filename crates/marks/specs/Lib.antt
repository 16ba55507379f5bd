pub mod Marks
pub mod Ready
