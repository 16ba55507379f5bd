pub mod Noting
pub mod Answering
pub mod Telling
