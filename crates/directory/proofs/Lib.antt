pub mod Cells
pub mod Leading
pub mod Tallying
pub mod Spreading
pub mod Made
pub mod Standing
pub mod Looking
pub mod Confirmed
