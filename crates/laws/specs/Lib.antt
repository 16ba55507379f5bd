pub mod Grown
pub mod Trails
pub mod Tours
pub mod Windows
pub mod Demand
pub mod Neighbours
pub mod Strands
pub mod Beside
