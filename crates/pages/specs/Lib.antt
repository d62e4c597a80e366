pub mod ChainedPointers
pub mod Listing
pub mod Farthest
pub mod Due
pub mod Call
