pub mod Text
pub mod Answer
pub mod Letters
pub mod Order
pub mod Iupac
pub mod Calls
pub mod Examples
