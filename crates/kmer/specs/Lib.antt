pub mod Kmer
pub mod Bits
pub mod Calls
pub mod Says
pub mod Packing
