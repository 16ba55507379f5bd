pub mod LabelFile
pub mod Output
pub mod Judged
pub mod Spelled
pub mod Reasons
pub mod Says
pub mod Examples
pub mod JudgedExamples
