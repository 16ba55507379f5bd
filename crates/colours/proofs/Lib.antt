pub mod Packing
pub mod Roundtrip
pub mod Listing
pub mod Searching
pub mod Painting
pub mod Colours
pub mod Says
