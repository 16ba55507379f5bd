pub mod Over
pub mod Records
pub mod OneRecord
pub mod Writing
pub mod Says
