pub mod Over
pub mod Trail
pub mod Says
pub mod Examples
