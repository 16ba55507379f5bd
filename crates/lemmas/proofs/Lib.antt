pub mod Tables
pub mod Tests
pub mod Lists
pub mod Building
pub mod Numbers
